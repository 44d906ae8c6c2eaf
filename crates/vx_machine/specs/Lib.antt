pub mod Calls
pub mod Names
pub mod Source
pub mod Whole
pub mod View
pub mod SourceActs
pub mod Steps
pub mod Run
pub mod Progress
pub mod Starting
pub use Rattle.vx_machine_nodes.specs.Acting
pub use Rattle.vx_machine_nodes.specs.Calls as TaskCalls
pub use Rattle.vx_machine_node.specs.Context
pub use Rattle.vx_machine_node.specs.Outcome
pub use Rattle.vx_machine_tasks.specs.Acting as TaskActing
pub use Rattle.vx_machine_task.specs.Ready
pub use Rattle.vx_machine_tasks.specs.Starting as TaskStarting
pub use Rattle.vx_machine_node.specs.View as TaskView
pub use Rattle.vx_machine_tasks.specs.Pairs
