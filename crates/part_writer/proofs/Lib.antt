mod Journal
mod Lines
mod Moments
mod Written
mod MoveTexts
mod Added
mod AskTexts
mod JobTexts
