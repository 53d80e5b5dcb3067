pub mod RunningLaws
pub mod FlowLaws
