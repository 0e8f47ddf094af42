mod Appending
mod DumpLines
mod Entries
mod Newlines
pub mod Parts
mod Plain
mod ReadRequests
mod ReplyTexts
mod RoundTrip
