pub mod Setting
pub mod Live
pub mod AfterHooks
pub mod EachRow
