-- What a reader must believe of the calls for other languages: a bench in words (Rows), and what playing a file writes of
-- each bench that it passes through (Traces); and what is claimed of every trace (Claims). What private calls alone promise by
-- stands apart (Private).
pub mod Rows
pub mod Traces
pub mod Claims
pub mod Private
