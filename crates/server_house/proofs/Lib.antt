pub mod Numbering
pub mod Houses
pub mod KeptSessions
pub mod KeptWorkers
pub mod ServedOrNot
pub mod Seats
