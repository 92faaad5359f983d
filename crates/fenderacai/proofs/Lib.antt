-- Laws of rows (RowLaws) and of traces (TraceLaws).
pub mod RowLaws
pub mod TraceLaws
