-- Encodings by their names.
use Rattle.std.proofs.Common.{◌≡◌, Bool, true, false, List, [], ◌∷◌, ℕ, Option, Some, None, refl, sym, bytes_eq}
use Rattle.std.specs.Prelude.{◌≢◌, IfSome, IfNone}
use Rattle.std.specs.Cmp.Lexicographic.{bytes_decides}
use Rattle.vx_model.specs.declared.encoding.EncodingId.{EncodingId}
use Rattle.vx_model.specs.declared.encoding.EncodingId.TheVariants as encodings
use Rattle.vx_model.specs.Numbers.{encoding_id}
use Rattle.vx_model.specs.Distinct.{first_repeat}
use Rattle.vx_encodings.specs.AllEncodings.{all_encodings}
use Rattle.vx_job.specs.JobParts.{first_named, distinct}

own_name : (e : EncodingId) → first_named (encoding_id e) all_encodings ≡ Some e
unfolding first_named
own_name encodings.Plain = refl
own_name encodings.Constant = refl
own_name encodings.Dict = refl
own_name encodings.Chunked = refl
own_name encodings.List = refl
own_name encodings.Struct = refl
own_name encodings.Extension = refl

pub named_is : (e : EncodingId) (name : List ℕ) → encoding_id e ≡ name → first_named name all_encodings ≡ Some e
named_is e name is = rw (← is) (own_name e)

not_equal : (b : Bool) → (b ≡ true → ⊥) → b ≡ false
not_equal true h = absurd (h refl)
not_equal false h = refl

none_of : (name : List ℕ) (es : List EncodingId) → ((e : EncodingId) → encoding_id e ≢ name) → first_named name es ≡ None
unfolding first_named
none_of name [] h = refl
none_of name (e ∷ es) h =
    let off : bytes_eq name (encoding_id e) ≡ false = not_equal (bytes_eq name (encoding_id e)) (λ t. h e (sym ((bytes_decides name (encoding_id e)).0 t))) in
    rw off (none_of name es h)

pub none_named : (name : List ℕ) → ((e : EncodingId) → encoding_id e ≢ name) → first_named name all_encodings ≡ None
none_named name h = none_of name all_encodings h

pub named_all : (o : Option EncodingId) (name : List ℕ) → IfSome o (λ e. encoding_id e ≡ name) → IfNone o ((e : EncodingId) → encoding_id e ≢ name) → o ≡ first_named name all_encodings
named_all None name some none = sym (none_named name none)
named_all (Some e) name some none = sym (named_is e name some)

-- ---- contexts

pub all_differ : (es : List EncodingId) → first_repeat es ≡ None → distinct es ≡ Some es
unfolding distinct
all_differ es is = rw is refl

pub one_repeats : (es : List EncodingId) (e : EncodingId) → first_repeat es ≡ Some e → distinct es ≡ None
unfolding distinct
one_repeats es e is = rw is refl

pub ruleset context_rules = (all_differ, one_repeats)
