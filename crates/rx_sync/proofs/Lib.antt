mod Examples
mod BoundExamples
mod RemoteExamples
mod EventExamples
pub mod Worlds
pub mod Masters
pub mod Staying
pub mod Messages
pub mod Lawful
pub mod Written
pub mod Takings
pub mod Twice
pub mod Exchanges
pub mod Ends
pub mod Going
pub mod Repeats
pub mod EveryTurn
pub mod Turns
pub mod Updates
pub mod Calls
pub mod Refusals
pub mod Leaves
pub mod Pulls
pub mod Steps
pub mod Bound
pub mod AnyReply
pub mod Elsewhere
pub mod HeardPulls
pub mod Apart
pub mod Within
pub mod Untouched
pub mod Forks
pub mod SweptTurns
pub mod Sweeps
pub mod KeysWithin
pub mod SweepsInTime
pub mod SweepOrders
pub mod StepsHere
pub mod Goodness
pub mod EventTakings
pub mod Levels
pub mod Deliveries
