-- What a reader must believe of a board's vote, in this order: what a board holds, how it starts and
-- what reaches it (Boards), its turns (Ballots, Rule, Turns), and a decision by announcement (Announcements); what a turn is a
-- second time, in words of its own (Acts); then any list of these, what holds of a board's whole life (Calls, Life), and what
-- comes of some (Examples).
pub mod Boards
pub mod Ballots
pub mod Rule
pub mod Turns
pub mod Announcements
pub mod Acts
pub mod Calls
pub mod Life
pub mod Examples
