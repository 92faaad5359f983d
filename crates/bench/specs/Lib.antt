-- What a reader must believe of the bench. First the machine: the kinds of events and what a bench holds (Events,
-- Benches); a fresh bench, the answers and the table (Setups, Answers, Table); what an accepted event does, and one event
-- as a whole (Effects, which needs the table); lists of events (Runs) and the letters (Shows). Then a second text of the
-- call for a fresh bench and of the table, with the claims that the machine is as these say (Making, Applies); what a
-- history says without looking at any bench (Story), agreement as one claim about it (Claim), of every list (Demands); and
-- worked examples (Examples). The open calls of src/claims promise these.
pub mod Events
pub mod Benches
pub mod Setups
pub mod Answers
pub mod Table
pub mod Effects
pub mod Runs
pub mod Shows
pub mod Making
pub mod Applies
pub mod Story
pub mod Claim
pub mod Demands
pub mod Examples
pub mod Private
