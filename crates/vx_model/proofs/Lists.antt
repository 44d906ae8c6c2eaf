-- Looking through lists of encodings.
use Rattle.std.proofs.Common.{◌≡◌, ℕ, suc, ◌+◌, ◌<◌, ◌||◌, Bool, true, false, List, ◌∷◌, length, get_or, take, drop, cond, Option, Some, None, refl, ap, arith}
use Rattle.std.proofs.lemmas.List.{drop_more, take_more}
use Rattle.vx_model.specs.declared.encoding.EncodingId.{EncodingId}
use Rattle.vx_model.specs.Numbers.{encoding_eq}
use Rattle.vx_model.specs.Distinct.{is_listed, repeat_after}
use Rattle.vx_model.specs.Places.{place_of, listed_place}

pub drop_listed : (es : List EncodingId) (i : ℕ) (e d : EncodingId) → i < length es → d ≡ get_or es i d
    → is_listed e (drop i es) ≡ (encoding_eq d e || is_listed e (drop (i + 1) es))
drop_listed es i e d lt is = rw (drop_more es i d lt, ← is) refl

pub drop_repeat : (es : List EncodingId) (i : ℕ) (e : EncodingId) → i < length es → e ≡ get_or es i e
    → repeat_after (take i es) (drop i es) ≡ cond (is_listed e (take i es)) (Some e) (repeat_after (take (i + 1) es) (drop (i + 1) es))
drop_repeat es i e lt is = rw (take_more es i e lt, drop_more es i e lt, ← is) refl

pub ruleset repeat_rules = (drop_listed, drop_repeat)

-- so many places further on
abbrev pub moved : ℕ → Option ℕ → Option ℕ
moved i None = None
moved i (Some n) = Some (i + n)

more_cases : (same listed : Bool) (i n : ℕ) → moved i (cond (same || listed) (Some (cond same 0 (suc n))) None) ≡ cond same (Some i) (moved (i + 1) (cond listed (Some n) None))
more_cases true listed i n = ap (λ (k : ℕ). Some k) (omega arith)
more_cases false true i n = ap (λ (k : ℕ). Some k) (omega arith)
more_cases false false i n = refl

listed_more : (e d : EncodingId) (ds : List EncodingId) (i : ℕ) → moved i (listed_place e (d ∷ ds)) ≡ cond (encoding_eq d e) (Some i) (moved (i + 1) (listed_place e ds))
listed_more e d ds i = more_cases (encoding_eq d e) (is_listed e ds) i (place_of e ds)

pub drop_place : (es : List EncodingId) (e : EncodingId) (i : ℕ) (d : EncodingId) → i < length es → d ≡ get_or es i d
    → moved i (listed_place e (drop i es)) ≡ cond (encoding_eq d e) (Some i) (moved (i + 1) (listed_place e (drop (i + 1) es)))
drop_place es e i d lt is = rw (drop_more es i d lt, ← is) (listed_more e d (drop (i + 1) es) i)

pub ruleset place_rules = (drop_place)
