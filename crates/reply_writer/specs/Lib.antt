pub mod AnswerText
pub mod ReplyText
pub mod MarketText
pub mod SerialText
