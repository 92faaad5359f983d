-- What a reader must believe of schedule files: what a file means (Files), and the other way round, a schedule laid out in
-- bytes (Layouts); what the calls that read one hand back (Readings), and what is printed (Prints). How a file is answered, a
-- second time (Stops), and what is claimed of every file (Claims). Then the letters a to l and other worked examples
-- (Examples). What private calls alone promise by stands apart (Private).
pub mod Files
pub mod Layouts
pub mod Readings
pub mod Prints
pub mod Stops
pub mod Claims
pub mod Examples
pub mod Private
