-- The compact text of JSON has no control byte: no newline, and no hole.
use Rattle.std.proofs.Common.{◌≡◌, ℕ, zero, suc, ◌/◌, ◌%◌, ◌<◌, ◌≤◌, ◌==◌, Bool, true, false, cond, ◌&&◌, List, [], ◌∷◌, ◌++◌, pos, negsuc, inl, inr, refl, sym, subst, arith, decimal, lt-ltb, le-ltb}
use Rattle.std.specs.Prelude.{All, nat_le}
use Rattle.std.specs.Fmt.{digits, digits_onto, digit_glyph}
use Rattle.std.proofs.lemmas.Bool.{and_parts, cases_eq, cases_lt}
use Rattle.std.proofs.lemmas.List.Elements.{All-nil, All-cons, All-append}
use Rattle.json.specs.Print.{escape_byte, escape, quoted}
use Rattle.json.proofs.Printed.Strings.{escape_byte_plain}
use Rattle.serde_json.specs.Data.{Num, unsigned, negative, float, Data, null, boolean, number, string, array, object, Items, no_items, item, Members, no_members, member}
use Rattle.serde_json.specs.Written.{number_text, comma_if, compact_text, items_text, members_text}

-- Each byte is a space or above.
abbrev pub IsPrinted : List ℕ → Type 0
IsPrinted bytes = All (λ b. 32 ≤ b) bytes

none : IsPrinted []
none = All-nil (λ b. 32 ≤ b)

byte_then : (b : ℕ) (bytes : List ℕ) → 32 ≤ b → IsPrinted bytes → IsPrinted (b ∷ bytes)
byte_then b bytes other rest = All-cons (λ b. 32 ≤ b) b bytes other rest

joined : (xs ys : List ℕ) → IsPrinted xs → IsPrinted ys → IsPrinted (xs ++ ys)
joined xs ys h k = All-append (λ b. 32 ≤ b) xs ys h k

either : (b : Bool) (xs ys : List ℕ) → IsPrinted xs → IsPrinted ys → IsPrinted (cond b xs ys)
either true xs ys h k = h
either false xs ys h k = k

-- a short text, tested byte by byte
abbrev is_printed : List ℕ → Bool
is_printed [] = true
is_printed (b ∷ bytes) = nat_le 32 b && is_printed bytes

tested : (b : ℕ) → nat_le 32 b ≡ true → 32 ≤ b
tested b h = grind (arith, h)

printed : (bytes : List ℕ) → is_printed bytes ≡ true → IsPrinted bytes
printed [] h = none
printed (b ∷ bytes) h = let p = and_parts _ _ h in byte_then b bytes (tested b p.0) (printed bytes p.1)

-- the escapes of the bytes below n
abbrev are_printed_below : ℕ → Bool
are_printed_below zero = true
are_printed_below (suc n) = is_printed (escape_byte n) && are_printed_below n

escape_below : (n : ℕ) → are_printed_below n ≡ true → (x : ℕ) → x < n → is_printed (escape_byte x) ≡ true
escape_below zero e x h = absurd (omega arith)
escape_below (suc n) e x h =
    let p = and_parts _ _ e in
    elim (cases_eq x n) [ inl same ↦ rw same p.0 | inr other ↦ escape_below n p.1 x (omega arith) ]

-- the quote, the backslash and all control bytes are below
low_escapes : are_printed_below 93 ≡ true
unfolding escape_byte
low_escapes = refl

escaped_byte : (x : ℕ) → IsPrinted (escape_byte x)
escaped_byte x = elim (cases_lt x 93) [
  | inl low ↦ printed _ (escape_below 93 low_escapes x low)
  | inr high ↦ subst IsPrinted (sym (escape_byte_plain x (λ e. omega arith) (λ e. omega arith) (omega arith))) (byte_then x [] (omega arith) none)
]

escaped : (s : List ℕ) → IsPrinted (escape s)
escaped [] = none
escaped (x ∷ s) = joined (escape_byte x) (escape s) (escaped_byte x) (escaped s)

quoted_line : (s : List ℕ) → IsPrinted (quoted s)
quoted_line s = byte_then 34 _ (omega arith) (joined (escape s) (34 ∷ []) (escaped s) (printed (34 ∷ []) refl))

glyph : (d : ℕ) → 32 ≤ digit_glyph false d
glyph d = elim (cases_lt d 10) [
  | inl low ↦ rw (lt-ltb d 10 low) (omega arith)
  | inr high ↦ rw (le-ltb d 10 high) (omega arith)
]

digits_line : (k n : ℕ) (acc : List ℕ) → IsPrinted acc → IsPrinted (digits_onto k 10 false n acc)
digits_line zero n acc h = h
digits_line (suc k) n acc h =
    let more = byte_then (digit_glyph false (n % 10)) acc (glyph (n % 10)) h in
    either (n / 10 == 0) _ _ more (digits_line k (n / 10) _ more)

decimal_line : (n : ℕ) → IsPrinted (decimal n)
unfolding digits
decimal_line n = digits_line 64 n [] none

number_line : (n : Num) → IsPrinted (number_text n)
number_line (unsigned n) = decimal_line n
number_line (negative (pos n)) = decimal_line n
number_line (negative (negsuc n)) = byte_then 45 _ (omega arith) (decimal_line (suc n))
number_line (float x) = none

comma_line : (later : Bool) → IsPrinted (comma_if later)
comma_line later = either later (44 ∷ []) [] (printed (44 ∷ []) refl) none

mutual
  pub value_printed : (d : Data) → IsPrinted (compact_text d)
  value_printed null = printed (compact_text null) refl
  value_printed (boolean true) = printed (compact_text (boolean true)) refl
  value_printed (boolean false) = printed (compact_text (boolean false)) refl
  value_printed (number n) = number_line n
  value_printed (string s) = quoted_line s
  value_printed (array ds) = byte_then 91 _ (omega arith) (items_line false ds)
  value_printed (object ms) = byte_then 123 _ (omega arith) (members_line false ms)

  items_line : (later : Bool) (ds : Items) → IsPrinted (items_text later ds)
  items_line later no_items = printed (93 ∷ []) refl
  items_line later (item d ds) = joined (comma_if later) _ (comma_line later) (joined (compact_text d) _ (value_printed d) (items_line true ds))

  members_line : (later : Bool) (ms : Members) → IsPrinted (members_text later ms)
  members_line later no_members = printed (125 ∷ []) refl
  members_line later (member k d ms) =
      joined (comma_if later) _ (comma_line later)
      (joined (quoted k) _ (quoted_line k) (byte_then 58 _ (omega arith) (joined (compact_text d) _ (value_printed d) (members_line true ms))))
