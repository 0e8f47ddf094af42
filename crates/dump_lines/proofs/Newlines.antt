-- The compact text of JSON has no newline.
use Rattle.std.proofs.Common.{◌≡◌, ◌≢◌, ℕ, zero, suc, ◌/◌, ◌%◌, ◌<◌, ◌==◌, Bool, true, false, not, cond, ◌&&◌, List, [], ◌∷◌, ◌++◌, pos, negsuc, inl, inr, refl, sym, subst, arith, decimal, lt-ltb}
use Rattle.std.proofs.Common.{le-ltb}
use Rattle.std.specs.Fmt.{digits, digits_onto, digit_glyph}
use Rattle.std.proofs.lemmas.Bool.{and_parts, cases_eq, cases_lt, eq-eqb}
use Rattle.std.proofs.lemmas.List.Elements.{All-nil, All-cons, All-append}
use Rattle.json.specs.Print.{escape_byte, escape, quoted}
use Rattle.json.proofs.Printed.Strings.{escape_byte_plain}
use Rattle.serde_json.specs.Data.{Num, unsigned, negative, float, Data, null, boolean, number, string, array, object, Items, no_items, item, Members, no_members, member}
use Rattle.serde_json.specs.Written.{number_text, comma_if, compact_text, items_text, members_text}
use Rattle.request_reader.specs.Lines.{newline, HasNoNewline}

none : HasNoNewline []
none = All-nil (λ b. b ≢ newline)

byte_then : (b : ℕ) (bytes : List ℕ) → b ≢ newline → HasNoNewline bytes → HasNoNewline (b ∷ bytes)
byte_then b bytes other rest = All-cons (λ b. b ≢ newline) b bytes other rest

joined : (xs ys : List ℕ) → HasNoNewline xs → HasNoNewline ys → HasNoNewline (xs ++ ys)
joined xs ys h k = All-append (λ b. b ≢ newline) xs ys h k

either : (b : Bool) (xs ys : List ℕ) → HasNoNewline xs → HasNoNewline ys → HasNoNewline (cond b xs ys)
either true xs ys h k = h
either false xs ys h k = k

-- a short text, tested byte by byte
abbrev is_one_line : List ℕ → Bool
is_one_line [] = true
is_one_line (b ∷ bytes) = not (b == newline) && is_one_line bytes

tested : (b : ℕ) → not (b == newline) ≡ true → b ≢ newline
tested b h is = let same : (b == newline) ≡ true = eq-eqb b newline is in cc

one_line : (bytes : List ℕ) → is_one_line bytes ≡ true → HasNoNewline bytes
one_line [] h = none
one_line (b ∷ bytes) h = let p = and_parts _ _ h in byte_then b bytes (tested b p.0) (one_line bytes p.1)

-- the escapes of the bytes below n
abbrev are_one_line_below : ℕ → Bool
are_one_line_below zero = true
are_one_line_below (suc n) = is_one_line (escape_byte n) && are_one_line_below n

escape_below : (n : ℕ) → are_one_line_below n ≡ true → (x : ℕ) → x < n → is_one_line (escape_byte x) ≡ true
escape_below zero e x h = absurd (omega arith)
escape_below (suc n) e x h =
    let p = and_parts _ _ e in
    elim (cases_eq x n) [ inl same ↦ rw same p.0 | inr other ↦ escape_below n p.1 x (omega arith) ]

-- the quote, the backslash and all control bytes are below
low_escapes : are_one_line_below 93 ≡ true
unfolding escape_byte
low_escapes = refl

escaped_byte : (x : ℕ) → HasNoNewline (escape_byte x)
escaped_byte x = elim (cases_lt x 93) [
  | inl low ↦ one_line _ (escape_below 93 low_escapes x low)
  | inr high ↦ subst HasNoNewline (sym (escape_byte_plain x (λ e. omega arith) (λ e. omega arith) (omega arith))) (byte_then x [] (λ e. omega arith) none)
]

escaped : (s : List ℕ) → HasNoNewline (escape s)
escaped [] = none
escaped (x ∷ s) = joined (escape_byte x) (escape s) (escaped_byte x) (escaped s)

quoted_line : (s : List ℕ) → HasNoNewline (quoted s)
quoted_line s = byte_then 34 _ (λ e. omega arith) (joined (escape s) (34 ∷ []) (escaped s) (one_line (34 ∷ []) refl))

glyph : (d : ℕ) → digit_glyph false d ≢ newline
glyph d = elim (cases_lt d 10) [
  | inl low ↦ rw (lt-ltb d 10 low) (λ e. omega arith)
  | inr high ↦ rw (le-ltb d 10 high) (λ e. omega arith)
]

digits_line : (k n : ℕ) (acc : List ℕ) → HasNoNewline acc → HasNoNewline (digits_onto k 10 false n acc)
digits_line zero n acc h = h
digits_line (suc k) n acc h =
    let more = byte_then (digit_glyph false (n % 10)) acc (glyph (n % 10)) h in
    either (n / 10 == 0) _ _ more (digits_line k (n / 10) _ more)

decimal_line : (n : ℕ) → HasNoNewline (decimal n)
unfolding digits
decimal_line n = digits_line 64 n [] none

number_line : (n : Num) → HasNoNewline (number_text n)
number_line (unsigned n) = decimal_line n
number_line (negative (pos n)) = decimal_line n
number_line (negative (negsuc n)) = byte_then 45 _ (λ e. omega arith) (decimal_line (suc n))
number_line (float x) = none

comma_line : (later : Bool) → HasNoNewline (comma_if later)
comma_line later = either later (44 ∷ []) [] (one_line (44 ∷ []) refl) none

mutual
  pub value_line : (d : Data) → HasNoNewline (compact_text d)
  value_line null = one_line (compact_text null) refl
  value_line (boolean true) = one_line (compact_text (boolean true)) refl
  value_line (boolean false) = one_line (compact_text (boolean false)) refl
  value_line (number n) = number_line n
  value_line (string s) = quoted_line s
  value_line (array ds) = byte_then 91 _ (λ e. omega arith) (items_line false ds)
  value_line (object ms) = byte_then 123 _ (λ e. omega arith) (members_line false ms)

  items_line : (later : Bool) (ds : Items) → HasNoNewline (items_text later ds)
  items_line later no_items = one_line (93 ∷ []) refl
  items_line later (item d ds) = joined (comma_if later) _ (comma_line later) (joined (compact_text d) _ (value_line d) (items_line true ds))

  members_line : (later : Bool) (ms : Members) → HasNoNewline (members_text later ms)
  members_line later no_members = one_line (125 ∷ []) refl
  members_line later (member k d ms) =
      joined (comma_if later) _ (comma_line later)
      (joined (quoted k) _ (quoted_line k) (byte_then 58 _ (λ e. omega arith) (joined (compact_text d) _ (value_line d) (members_line true ms))))
