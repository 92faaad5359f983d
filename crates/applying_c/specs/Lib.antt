-- What a reader must believe of the call that is measured: what a schedule file is answered.
pub mod Answered
