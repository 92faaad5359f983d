pub mod FromOneLaws
pub mod LogLaws
pub mod SignerLaws
pub mod HistoryLaws
pub mod ExampleLaws
