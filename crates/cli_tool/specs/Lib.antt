-- What the promises rest on.
pub mod FileName
pub mod Report
pub mod Status
pub mod DatabaseInFile
pub mod Task
pub mod World
pub mod Reading
pub mod Writing
pub mod Telling
pub mod TaskEnds
pub mod MustCome
pub mod PairOfFile
pub mod Command
pub mod GenerateTask
pub mod CheckTask
pub mod CallArguments
pub mod ExecTask
pub mod CodecTasks
pub mod Ends
-- What the functions inside promise each other.
pub mod Asked
pub mod FoundDatabase
