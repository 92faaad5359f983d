-- Laws of a file's faults (FaultLaws), of its two sections by their bytes (SectionLaws), of the whole file by how it is
-- answered (FileLaws), of a schedule laid out in bytes (LayoutLaws), of the second text of a file's answer (StopLaws), of
-- how much of a file is looked at (PrefixLaws), of what is printed (PrintLaws) and of playing a file that was read
-- (PlayLaws). Then the worked examples (ExampleLaws), and what is claimed of every file (ClaimLaws).
pub mod FaultLaws
pub mod SectionLaws
pub mod FileLaws
pub mod LayoutLaws
pub mod StopLaws
pub mod PrefixLaws
pub mod PrintLaws
pub mod PlayLaws
pub mod ExampleLaws
pub mod ClaimLaws
