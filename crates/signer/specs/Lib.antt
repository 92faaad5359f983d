-- What a reader must believe of the signers, in this order: values, identifiers and what one speaker said (Log), the signer
-- (Signer), what holds of every list of requests to a fresh one (Claims), and worked examples, letter d among them
-- (Examples). FromOne holds a notion of general use that these are written in. Public contracts reach all of it: no private
-- call promises by words of its own.
pub mod FromOne
pub mod Log
pub mod Signer
pub mod Claims
pub mod Examples
