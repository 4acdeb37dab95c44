pub mod Trials
pub mod Answers
pub mod PageAnswers
pub mod Photometry
pub mod Untaken
pub mod LampFiles
pub mod LampTables
pub mod Spellings
pub mod LightAnswers
pub mod Claims
pub mod Dims
pub mod Escapes
pub mod RoomAnswers
pub mod Runs
pub mod Codes
pub mod Commands
pub mod Questions
mod AnswerTests
