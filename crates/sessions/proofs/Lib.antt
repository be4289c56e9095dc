pub mod AnswerLemmas
pub mod CheckLemmas
pub mod FolderLemmas
mod LeftLemmas
pub mod PutLemmas
mod WrittenLemmas
