-- Bytes that leave a source, or come to a sink, one piece after the other.
use Rattle.std.proofs.Common.{◌≡◌, ℕ, List, Option, Some, None, ◌++◌, ◌∙◌, ap, sym, ◌+◌, ◌≤◌, take, drop, length, arith, length-drop, append_assoc, subst}
use Rattle.std.proofs.lemmas.List.{length-take-le, take-append-drop, drop-drop}
use Rattle.std.proofs.Math.Seq.{take-add, take-append_seam}
use Rattle.std.specs.Io.KnownBytes.{Consumes, Appends}

-- what two reads took
pub consumes_more : (old mid new : Option (List ℕ)) (a b : List ℕ) → Consumes old mid a → Consumes mid new b → Consumes old new (a ++ b)
consumes_more None mid new a b first second = tt
consumes_more (Some xs) None new a b first second = absurd first
consumes_more (Some xs) (Some ys) None a b first second = absurd second
consumes_more (Some xs) (Some ys) (Some zs) a b first second = first ∙ ap (λ l. a ++ l) second ∙ sym (append_assoc a b zs)

-- what was taken grew by what was read behind it
pub taken_more : (old mid new : Option (List ℕ)) (filled count : ℕ) (before after : List ℕ) → Consumes old mid (take filled before)
    → take filled after ≡ take filled before → Consumes mid new (take count (drop filled after)) → Consumes old new (take (filled + count) after)
taken_more old mid new filled count before after first same second =
    let more = take count (drop filled after) in
    let all : take (filled + count) after ≡ take filled before ++ more = take-add filled count after ∙ ap (λ l. l ++ more) same in
    subst (Consumes old new) (sym all) (consumes_more old mid new (take filled before) more first second)

-- all of a list stands before what follows it
pub front_of : (n : ℕ) (xs rest : List ℕ) → length xs ≡ n → take n (xs ++ rest) ≡ xs
front_of n xs rest long = ap (λ (k : ℕ). take k (xs ++ rest)) (sym long) ∙ take-append_seam xs rest

-- what two writes appended
pub appends_more : (old mid new : Option (List ℕ)) (a b : List ℕ) → Appends old mid a → Appends mid new b → Appends old new (a ++ b)
appends_more None mid new a b first second = tt
appends_more (Some xs) None new a b first second = absurd first
appends_more (Some xs) (Some ys) None a b first second = absurd second
appends_more (Some xs) (Some ys) (Some zs) a b first second = second ∙ ap (λ l. l ++ b) first ∙ append_assoc xs a b

-- what was copied to the front of a buffer is what left the source
pub copied : (given count : ℕ) (bytes piece rest : List ℕ) → piece ≡ take count (drop given bytes) → given + count ≤ length bytes
    → drop given bytes ≡ take count (piece ++ rest) ++ drop (given + count) bytes
copied given count bytes piece rest is within =
    let whole : length piece ≡ count = ap length is ∙ length-take-le count (drop given bytes) (omega (arith, length-drop given bytes)) in
    let front : take count (piece ++ rest) ≡ piece = front_of count piece rest whole in
    let behind : drop count (drop given bytes) ≡ drop (given + count) bytes = drop-drop count given bytes in
    sym (take-append-drop count (drop given bytes)) ∙ ap (λ l. l ++ drop count (drop given bytes)) (sym is ∙ sym front)
    ∙ ap (λ l. take count (piece ++ rest) ++ l) behind
