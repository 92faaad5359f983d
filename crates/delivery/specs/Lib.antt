-- What a reader must believe of delivery, in this order: sizes (Limits, Bus, Rounds, Sets), what is delivered and owed
-- (Delivered, Owed), what a board accepts (Acceptance), what holds of every store and of every record of owed copies
-- (Claims), and worked examples, letters a to c and e to k among them (Examples). Counting holds the notions of
-- general use that these are written in. What private calls alone promise by stands apart (Private).
pub mod Counting
pub mod Limits
pub mod Bus
pub mod Rounds
pub mod Sets
pub mod Delivered
pub mod Owed
pub mod Acceptance
pub mod Claims
pub mod Examples
pub mod Private
