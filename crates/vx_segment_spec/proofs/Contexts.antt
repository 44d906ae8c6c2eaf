-- A context lists seven encodings at most, so that a place in it fits two bytes.
use Rattle.std.proofs.Common.{◌≡◌, ℕ, suc, ◌+◌, ◌^◌, ◌<◌, ◌≤◌, ◌||◌, Bool, true, false, cond, List, [], ◌∷◌, ◌++◌, length, Option, Some, None, refl, sym, ap, ◌∙◌, arith}
use Rattle.vx_model.specs.declared.encoding.EncodingId.{EncodingId}
use Rattle.vx_model.specs.declared.encoding.EncodingId.TheVariants as ids
use Rattle.vx_model.specs.Numbers.{encoding_eq}
use Rattle.vx_model.specs.Distinct.{is_listed, repeat_after, first_repeat}
use Rattle.vx_model.specs.Places.{place_of}

-- 1 where the encoding isn't among those
abbrev missing : EncodingId → List EncodingId → ℕ
missing d es = cond (is_listed d es) 0 1

-- how many encodings aren't among those
abbrev room : List EncodingId → ℕ
room es = missing ids.Plain es + (missing ids.Constant es + (missing ids.Dict es + (missing ids.Chunked es + (missing ids.List es + (missing ids.Struct es + missing ids.Extension es)))))

either : (same listed other : Bool) → (same || (listed || other)) ≡ ((same || listed) || other)
either true listed other = refl
either false listed other = refl

or_false : (b : Bool) → (b || false) ≡ b
or_false true = refl
or_false false = refl

or_true : (b : Bool) → (b || true) ≡ true
or_true true = refl
or_true false = refl

pub listed_push : (d e : EncodingId) (es : List EncodingId) → is_listed d (es ++ e ∷ []) ≡ (is_listed d es || encoding_eq e d)
listed_push d e [] = or_false (encoding_eq e d)
listed_push d e (f ∷ es) = ap (λ (b : Bool). encoding_eq f d || b) (listed_push d e es) ∙ either (encoding_eq f d) (is_listed d es) (encoding_eq e d)

kept : (d e : EncodingId) (es : List EncodingId) → encoding_eq e d ≡ false → missing d (es ++ e ∷ []) ≡ missing d es
kept d e es other = ap (λ (b : Bool). cond b 0 1) (listed_push d e es ∙ ap (λ (b : Bool). is_listed d es || b) other ∙ or_false (is_listed d es))

taken : (e : EncodingId) (es : List EncodingId) → encoding_eq e e ≡ true → is_listed e es ≡ false → missing e es ≡ suc (missing e (es ++ e ∷ []))
taken e es same new =
    let gone : missing e (es ++ e ∷ []) ≡ 0 = ap (λ (b : Bool). cond b 0 1) (listed_push e e es ∙ ap (λ (b : Bool). is_listed e es || b) same ∙ or_true (is_listed e es)) in
    let there : missing e es ≡ 1 = ap (λ (b : Bool). cond b 0 1) new in
    there ∙ ap suc (sym gone)

room_less : (e : EncodingId) (es : List EncodingId) → is_listed e es ≡ false → room es ≡ suc (room (es ++ e ∷ []))
room_less ids.Plain es new = omega (arith, taken ids.Plain es refl new, kept ids.Constant ids.Plain es refl, kept ids.Dict ids.Plain es refl, kept ids.Chunked ids.Plain es refl, kept ids.List ids.Plain es refl, kept ids.Struct ids.Plain es refl, kept ids.Extension ids.Plain es refl)
room_less ids.Constant es new = omega (arith, kept ids.Plain ids.Constant es refl, taken ids.Constant es refl new, kept ids.Dict ids.Constant es refl, kept ids.Chunked ids.Constant es refl, kept ids.List ids.Constant es refl, kept ids.Struct ids.Constant es refl, kept ids.Extension ids.Constant es refl)
room_less ids.Dict es new = omega (arith, kept ids.Plain ids.Dict es refl, kept ids.Constant ids.Dict es refl, taken ids.Dict es refl new, kept ids.Chunked ids.Dict es refl, kept ids.List ids.Dict es refl, kept ids.Struct ids.Dict es refl, kept ids.Extension ids.Dict es refl)
room_less ids.Chunked es new = omega (arith, kept ids.Plain ids.Chunked es refl, kept ids.Constant ids.Chunked es refl, kept ids.Dict ids.Chunked es refl, taken ids.Chunked es refl new, kept ids.List ids.Chunked es refl, kept ids.Struct ids.Chunked es refl, kept ids.Extension ids.Chunked es refl)
room_less ids.List es new = omega (arith, kept ids.Plain ids.List es refl, kept ids.Constant ids.List es refl, kept ids.Dict ids.List es refl, kept ids.Chunked ids.List es refl, taken ids.List es refl new, kept ids.Struct ids.List es refl, kept ids.Extension ids.List es refl)
room_less ids.Struct es new = omega (arith, kept ids.Plain ids.Struct es refl, kept ids.Constant ids.Struct es refl, kept ids.Dict ids.Struct es refl, kept ids.Chunked ids.Struct es refl, kept ids.List ids.Struct es refl, taken ids.Struct es refl new, kept ids.Extension ids.Struct es refl)
room_less ids.Extension es new = omega (arith, kept ids.Plain ids.Extension es refl, kept ids.Constant ids.Extension es refl, kept ids.Dict ids.Extension es refl, kept ids.Chunked ids.Extension es refl, kept ids.List ids.Extension es refl, kept ids.Struct ids.Extension es refl, taken ids.Extension es refl new)

no_repeat : (listed : Bool) (e : EncodingId) (later : Option EncodingId) → cond listed (Some e) later ≡ None → (listed ≡ false) × (later ≡ None)
no_repeat true e later h = absurd cc
no_repeat false e later h = (refl, h)

has_room : (before es : List EncodingId) → repeat_after before es ≡ None → length es ≤ room before
has_room before [] h = omega arith
has_room before (e ∷ es) h =
    let p = no_repeat (is_listed e before) e (repeat_after (before ++ e ∷ []) es) h in
    omega (arith, room_less e before p.0, has_room (before ++ e ∷ []) es p.1)

at_most : (e : EncodingId) (es : List EncodingId) → place_of e es ≤ length es
at_most e [] = omega arith
at_most e (d ∷ es) = by_test (encoding_eq d e) (place_of e es) (length es) (at_most e es)
  where
    by_test : (same : Bool) (n m : ℕ) → n ≤ m → cond same 0 (suc n) ≤ suc m
    by_test true n m le = omega arith
    by_test false n m le = omega (arith, le)

pub place_fits : (e : EncodingId) (ctx : List EncodingId) → first_repeat ctx ≡ None → place_of e ctx < 2 ^ 16
place_fits e ctx distinct =
    let seven : room [] ≡ 7 = refl in
    omega (arith, at_most e ctx, has_room [] ctx distinct, seven)
