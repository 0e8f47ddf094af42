-- Parts of a buffer's bytes.
use Rattle.std.proofs.Common.{◌≡◌, ℕ, ◌+◌, ◌-◌, ◌≤◌, List, ◌++◌, length, take, drop, slice_range, sym, ap, ◌∙◌, arith, vec_len}
use Rattle.std.proofs.lemmas.List.{length-take, take-take, drop-take, drop-drop}
use Rattle.request_reader.specs.Buffered.{Buffered, buffered}
use Rattle.request_reader.specs.declared.windows.Window.TheInside.{Inside}
use lib.Seq.{take-add}

part-take : (xs : List ℕ) (start end len : ℕ) → start + len ≤ end → slice_range xs start (start + len) ≡ take len (slice_range xs start end)
part-take xs start end len inside =
    let width : start + len - start ≡ len = omega arith in
    let within : len ≤ end - start = omega arith in
    ap (λ n. take n (drop start xs)) width ∙ sym (take-take len (end - start) (drop start xs) within)

part-drop : (xs : List ℕ) (start end len : ℕ) → start + len ≤ end → slice_range xs (start + len) end ≡ drop len (slice_range xs start end)
part-drop xs start end len inside =
    let parts : end - start ≡ len + (end - (start + len)) = omega arith in
    sym (ap (λ n. drop len (take n (drop start xs))) parts ∙ drop-take len _ (drop start xs)
    ∙ ap (take (end - (start + len))) (drop-drop len start xs))

same_buffered : (size : ℕ) (a b c d : List ℕ) → a ≡ c → b ≡ d → ◌≡◌ {A = Buffered} (record { size = size; line = a; held = b }) (record { size = size; line = c; held = d })
same_buffered size a b c d e f = cc

pub length-part : (xs : List ℕ) (start end n : ℕ) → start ≤ end → n ≤ length (slice_range xs start end) → start + n ≤ end
length-part xs start end n ordered within =
    let least : length (slice_range xs start end) ≤ end - start = simp length-take (omega arith) in
    omega arith

pub buffered-cut : (w : Inside) (len end : ℕ) → w.start ≤ w.end → len ≤ end → end ≤ length (buffered w).held →
    buffered (record { bytes = w.bytes; line_start = w.start; line_end = w.start + len; start = w.start + end; end = w.end }) ≡
    record { size = vec_len w.bytes; line = take len (buffered w).held; held = drop end (buffered w).held }
buffered-cut w len end ordered inside within =
    let fits : w.start + end ≤ w.end = length-part w.bytes.items w.start w.end end ordered within in
    same_buffered (vec_len w.bytes) _ _ _ _ (part-take w.bytes.items w.start w.end len (omega arith)) (part-drop w.bytes.items w.start w.end end fits)

-- what is read after the first n bytes
pub front-more : (xs held : List ℕ) (n more : ℕ) → take n xs ≡ held → slice_range xs 0 (n + more) ≡ held ++ take more (drop n xs)
front-more xs held n more e =
    let all : n + more - 0 ≡ n + more = omega arith in
    ap (λ m. take m xs) all ∙ take-add n more xs ∙ ap (λ front. front ++ take more (drop n xs)) e
