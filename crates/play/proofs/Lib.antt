-- What `run` reads of a file is enough of it (RunLaws), and what it reads is what the reader had (ReadLaws).
pub mod RunLaws
pub mod ReadLaws
