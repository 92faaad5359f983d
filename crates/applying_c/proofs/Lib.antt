-- Laws of what a file is answered (AnsweredLaws).
pub mod AnsweredLaws
