pub mod Present
pub mod Execution
pub mod Limits
pub mod TenantState
pub mod CheckMemory
pub mod Verdicts
