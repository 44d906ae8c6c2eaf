-- Reading the buffers, as the loops do.
use Rattle.std.proofs.Common.{◌≡◌, ℕ, zero, suc, ◌-◌, ◌+◌, ◌%◌, ◌≤◌, ◌<◌, Bool, true, false, cond, eqb, List, [], ◌∷◌, ◌++◌, length, get_or, take, drop, map, Option, Some, None, Result, Ok, Err, refl, sym, ap, ◌∙◌, append_assoc, arith, ltb}
use Rattle.std.proofs.lemmas.Bool.{ltb-false, eqb-true, ne_eqb}
use Rattle.std.proofs.lemmas.List.{append-nil, drop_more, length-replicate, length-drop, drop_all}
use Rattle.vx_segment_writer.specs.Segment.{padding_at}
use Rattle.vx_segment_reader.specs.declared.node.Node.{Node}
use Rattle.vx_segment_reader.specs.declared.error.DecodeError.{DecodeError}
use Rattle.vx_byte_reader.specs.Places.{◌>>=◌}
use Rattle.vx_segment_spec.specs.Reading.{Fault, bad_grammar}
use Rattle.vx_segment_spec.specs.Segment.{set_byte, unless_set, buffer_at, buffers_at, lengths_of}
use Rattle.vx_segment_reader.specs.Views.{Fails, head}
use Rattle.vx_segment_spec.proofs.BufferLaws.{buffer_is}
use Rattle.vx_segment_reader.proofs.Loops.{fails_with}

pub drop_lengths : (ns : List Node) (i : ℕ) (n : Node) → i < length ns → n ≡ get_or ns i n
    → lengths_of (map head (drop i ns)) ≡ n.lengths.items ++ lengths_of (map head (drop (i + 1) ns))
drop_lengths ns i n lt is = rw (drop_more ns i n lt, ← is) refl

pub ruleset lengths_rules = (append_assoc, append-nil, drop_lengths)

pub padding_on : (at : ℕ) → length (padding_at true at) ≡ (8 - at % 8) % 8
padding_on at = length-replicate ((8 - at % 8) % 8) 0

pub ruleset padding_rules = (padding_on)

set_here : (at b : ℕ) (bytes : List ℕ) → 0 < b → set_byte at (b ∷ bytes) ≡ Some at
set_here at zero bytes some = absurd (omega (arith, some))
set_here at (suc b) bytes some = refl

set_later : (at b : ℕ) (bytes : List ℕ) → b ≡ 0 → set_byte at (b ∷ bytes) ≡ set_byte (at + 1) bytes
set_later at b bytes none =
    let next : suc at ≡ at + 1 = omega arith in
    rw (none, ← next) refl

pub set_found : (at i : ℕ) (bytes : List ℕ) (total : Option ℕ) → i < length bytes → 0 < get_or bytes i 0 → set_byte (at + i) (drop i bytes) ≡ total → Some (at + i) ≡ total
set_found at i bytes total lt some so_far =
    let one : set_byte (at + i) (drop i bytes) ≡ Some (at + i) = rw (drop_more bytes i 0 lt) (set_here (at + i) (get_or bytes i 0) (drop (i + 1) bytes) some) in
    sym one ∙ so_far

pub set_not_yet : (at i : ℕ) (bytes : List ℕ) (total : Option ℕ) → i < length bytes → get_or bytes i 0 ≡ 0 → set_byte (at + i) (drop i bytes) ≡ total → set_byte (at + (i + 1)) (drop (i + 1) bytes) ≡ total
set_not_yet at i bytes total lt none so_far =
    let next : at + (i + 1) ≡ at + i + 1 = omega arith in
    let one : set_byte (at + i) (drop i bytes) ≡ set_byte (at + i + 1) (drop (i + 1) bytes) = rw (drop_more bytes i 0 lt) (set_later (at + i) (get_or bytes i 0) (drop (i + 1) bytes) none) in
    rw next (sym one ∙ so_far)

pub set_nowhere : (at i : ℕ) (bytes : List ℕ) (total : Option ℕ) → length bytes ≤ i → set_byte (at + i) (drop i bytes) ≡ total → None ≡ total
set_nowhere at i bytes total le so_far = sym (ap (set_byte (at + i)) (drop_all i bytes le)) ∙ so_far

-- ---- one buffer behind another

pub is_some : (empty : Bool) (n : ℕ) → empty ≡ eqb n 0 → empty ≡ false → 0 < n
is_some empty zero is e = absurd cc
is_some empty (suc n) is e = omega arith

pub is_none : (empty : Bool) (n : ℕ) → empty ≡ eqb n 0 → empty ≡ true → n ≡ 0
is_none empty n is e = eqb-true n 0 (sym is ∙ e)

-- what was read before, and what is still read
abbrev pub with_buffers : List (List ℕ) → Result (List (List ℕ)) Fault → Result (List (List ℕ)) Fault
with_buffers front read = read >>= λ bs. Ok (front ++ bs)

regroup : (front : List (List ℕ)) (b : List ℕ) (read : Result (List (List ℕ)) Fault) → with_buffers front (read >>= λ bs. Ok (b ∷ bs)) ≡ with_buffers (front ++ b ∷ []) read
regroup front b (Ok bs) = ap (λ (x : List (List ℕ)). Ok x) (simp append_assoc)
regroup front b (Err f) = refl

-- the place at which the rest of the bytes begins
abbrev pub place_of_rest : List ℕ → List ℕ → ℕ
place_of_rest whole rest = length whole - length rest

pub buffers_go_on : (padded : Bool) (front : List (List ℕ)) (ns : List ℕ) (i n : ℕ) (whole rest b after : List ℕ) (total : Result (List (List ℕ)) Fault) → i < length ns → n ≡ get_or ns i 0 → length rest ≤ length whole
    → buffer_at (length (padding_at padded (place_of_rest whole rest))) (place_of_rest whole rest) n rest ≡ Ok (b, after)
    → with_buffers front (buffers_at padded (place_of_rest whole rest) (drop i ns) rest) ≡ total
    → (with_buffers (front ++ b ∷ []) (buffers_at padded (place_of_rest whole after) (drop (i + 1) ns) after) ≡ total) × (length after ≤ length whole)
unfolding buffers_at
buffers_go_on padded front ns i n whole rest b after total lt is within h so_far =
    let at : ℕ = place_of_rest whole rest in
    let k : ℕ = length (padding_at padded at) in
    let known = buffer_is k at n rest b after h in
    let left : length after ≡ length rest - (k + n) = ap (λ (x : List ℕ). length x) known.3 ∙ length-drop (k + n) rest in
    let next : place_of_rest whole after ≡ at + (k + n) = omega (arith, left, within, known.1) in
    let one : with_buffers front (buffers_at padded at (n ∷ drop (i + 1) ns) rest) ≡ with_buffers (front ++ b ∷ []) (buffers_at padded (at + (k + n)) (drop (i + 1) ns) after) = rw h (regroup front b (buffers_at padded (at + (k + n)) (drop (i + 1) ns) after)) in
    let here : drop i ns ≡ n ∷ drop (i + 1) ns = rw is (drop_more ns i 0 lt) in
    (rw next (sym one ∙ ap (λ (x : List ℕ). with_buffers front (buffers_at padded at x rest)) (sym here) ∙ so_far), omega (arith, left, within))

buffers_stop : (padded : Bool) (front : List (List ℕ)) (ns : List ℕ) (i n at : ℕ) (rest : List ℕ) (total : Result (List (List ℕ)) Fault) (f : Fault) → i < length ns → n ≡ get_or ns i 0
    → buffer_at (length (padding_at padded at)) at n rest ≡ Err f → with_buffers front (buffers_at padded at (drop i ns) rest) ≡ total → total ≡ Err f
unfolding buffers_at
buffers_stop padded front ns i n at rest total f lt is h so_far =
    let one : with_buffers front (buffers_at padded at (n ∷ drop (i + 1) ns) rest) ≡ Err f = rw h refl in
    let here : drop i ns ≡ n ∷ drop (i + 1) ns = rw is (drop_more ns i 0 lt) in
    sym so_far ∙ ap (λ (x : List ℕ). with_buffers front (buffers_at padded at x rest)) here ∙ one

pub buffers_end : (e : DecodeError) (padded : Bool) (front : List (List ℕ)) (ns : List ℕ) (i n at : ℕ) (rest : List ℕ) (total : Result (List (List ℕ)) Fault) → i < length ns → n ≡ get_or ns i 0
    → Fails e (buffer_at (length (padding_at padded at)) at n rest) → with_buffers front (buffers_at padded at (drop i ns) rest) ≡ total → Fails e total
buffers_end e padded front ns i n at rest total lt is h so_far = fails_with e (buffer_at (length (padding_at padded at)) at n rest) total (λ f is_so. buffers_stop padded front ns i n at rest total f lt is is_so so_far) h

at_end : (padded : Bool) (front : List (List ℕ)) (ns : List ℕ) (i at : ℕ) (rest : List ℕ) (total : Result (List (List ℕ)) Fault) → length ns ≤ i → with_buffers front (buffers_at padded at (drop i ns) rest) ≡ total
    → with_buffers front (buffers_at padded at [] rest) ≡ total
at_end padded front ns i at rest total le so_far = sym (ap (λ (x : List ℕ). with_buffers front (buffers_at padded at x rest)) (drop_all i ns le)) ∙ so_far

pub buffers_done : (padded : Bool) (front : List (List ℕ)) (ns : List ℕ) (i at : ℕ) (rest : List ℕ) (total : Result (List (List ℕ)) Fault) → length ns ≤ i → length rest ≡ 0
    → with_buffers front (buffers_at padded at (drop i ns) rest) ≡ total → total ≡ Ok front
unfolding buffers_at
buffers_done padded front ns i at rest total le none so_far =
    let one : with_buffers front (buffers_at padded at [] rest) ≡ Ok front = rw none (ap (λ (x : List (List ℕ)). Ok x) (append-nil front)) in
    sym (at_end padded front ns i at rest total le so_far) ∙ one

pub buffers_left : (padded : Bool) (front : List (List ℕ)) (ns : List ℕ) (i at : ℕ) (rest : List ℕ) (total : Result (List (List ℕ)) Fault) → length ns ≤ i → 0 < length rest
    → with_buffers front (buffers_at padded at (drop i ns) rest) ≡ total → total ≡ Err (bad_grammar at)
unfolding buffers_at
buffers_left padded front ns i at rest total le some so_far =
    let other : eqb (length rest) 0 ≡ false = ne_eqb (length rest) 0 (λ e. absurd (omega (arith, e, some))) in
    let one : with_buffers front (buffers_at padded at [] rest) ≡ Err (bad_grammar at) = rw other refl in
    sym (at_end padded front ns i at rest total le so_far) ∙ one
