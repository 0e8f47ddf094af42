-- The text of each answer of the market to a step of a script, without its newline.
use Rattle.std.specs.Prelude.{ℕ, List, ◌++◌, codes, decimal}
use Rattle.reply_writer.specs.declared.markets.MarketAnswer.{MarketAnswer}
use Rattle.reply_writer.specs.declared.markets.MarketAnswer.TheVariants.{Queued, Held, NoCall, NotNow}

abbrev pub market_text : MarketAnswer → List ℕ
market_text Queued = codes "{\"market\":\"queued\"}"
market_text (Held slot name) = codes "{\"market\":\"held\",\"slot\":" ++ decimal slot ++ codes ",\"tenant\":\"" ++ name ++ codes "\"}"
market_text NoCall = codes "{\"market\":\"none\"}"
market_text NotNow = codes "{\"market\":\"not_now\"}"
