-- Metadata of zoned layouts: what is read is spelled so, and what is spelled so is read.
use Rattle.std.proofs.Common.{◌≡◌, ℕ, zero, suc, ◌^◌, ◌<◌, cond, eqb, ltb, List, [], ◌∷◌, ◌++◌, length, Some, None, refl, sym, ap, subst, ◌∙◌, append_assoc, IsTrue}
use Rattle.std.specs.Int.{w32, to_le_bytes}
use Rattle.std.specs.Str.{is_utf8}
use Rattle.std.proofs.lemmas.Bool.{ltb-true, lt-ltb, eqb-true}
use Rattle.std.proofs.lemmas.List.{append-nil, nil_from_length}
use Rattle.vx_model.specs.Words.{joined_by, all_by}
use Rattle.vx_layout_spec.specs.LayoutTree.{Spec}
use Rattle.vx_byte_reader.specs.Fields.{◌>>=◌, front_at, many_at}
use Rattle.vx_byte_reader.proofs.FieldLaws.{IsBytes, bind_some, guard_some, some_is, both_true, halves, Takes, Takes-then, Reads, front_takes, front_again, reads_u32, Each, many_takes, many_again}
use Rattle.vx_metadata.specs.Values.{Zoned, is_short_spec, has_text_id, IsZoned}
use Rattle.vx_metadata.specs.Spelled.{counted, spec_bytes, zoned_bytes}
use Rattle.vx_metadata.specs.Reading.{count_at, string_at, name_at, spec_at, zoned_body, zoned_in}

abbrev u32_bytes : ℕ → List ℕ
u32_bytes n = to_le_bytes w32 n

abbrev IsCount : ℕ → Type 0
IsCount n = n < 2 ^ 32

reads_count : Reads count_at u32_bytes IsCount
reads_count = reads_u32

abbrev IsString : List ℕ → Type 0
IsString s = IsTrue (ltb (length s) (2 ^ 32))

reads_string : Reads string_at counted IsString
unfolding string_at
reads_string = record { takes = takes; again = again }
  where
    takes : (bytes s rest : List ℕ) → IsBytes bytes → string_at bytes ≡ Some (s, rest) → Takes bytes (counted s) rest × IsString s
    takes bytes s rest fits e =
        let a = bind_some (count_at bytes) (λ n. front_at n.0 n.1) (s, rest) e in
        let t = reads_count.takes bytes a.0.0 a.0.1 fits a.1 in
        let u = front_takes a.0.0 a.0.1 s rest t.0.rest_bytes a.2 in
        let both = Takes-then bytes (u32_bytes a.0.0) a.0.1 s rest t.0 u.0 in
        let small : length s < 2 ^ 32 = rw u.1 t.1 in
        (subst (λ (k : ℕ). Takes bytes (u32_bytes k ++ s) rest) (sym u.1) both, lt-ltb (length s) (2 ^ 32) small)

    again : (s rest : List ℕ) → IsString s → string_at (counted s ++ rest) ≡ Some (s, rest)
    again s rest short =
        ap string_at (append_assoc (u32_bytes (length s)) s rest) ∙ rw (reads_count.again (length s) (s ++ rest) (ltb-true (length s) (2 ^ 32) short)) (front_again (length s) s rest refl)

record IsName (s : List ℕ) : Type 0 where
  utf8 : IsTrue (is_utf8 s)
  short : IsString s

reads_name : Reads name_at counted IsName
unfolding name_at
reads_name = record { takes = takes; again = again }
  where
    takes : (bytes s rest : List ℕ) → IsBytes bytes → name_at bytes ≡ Some (s, rest) → Takes bytes (counted s) rest × IsName s
    takes bytes s rest fits e =
        let a = bind_some (string_at bytes) (λ x. cond (is_utf8 x.0) (Some x) None) (s, rest) e in
        let g = guard_some (is_utf8 a.0.0) a.0 (s, rest) a.2 in
        let t = reads_string.takes bytes a.0.0 a.0.1 fits a.1 in
        subst (λ (p : List ℕ × List ℕ). Takes bytes (counted p.0) p.1 × IsName p.0) g.1 (t.0, record { utf8 = g.0; short = t.1 })

    again : (s rest : List ℕ) → IsName s → name_at (counted s ++ rest) ≡ Some (s, rest)
    again s rest kind = rw (reads_string.again s rest kind.short, kind.utf8) refl

record IsSpec (s : Spec) : Type 0 where
  short : IsTrue (is_short_spec s)
  id : IsTrue (has_text_id s)

reads_spec : Reads spec_at spec_bytes IsSpec
unfolding spec_at
reads_spec = record { takes = takes; again = again }
  where
    takes : (bytes : List ℕ) (s : Spec) (rest : List ℕ) → IsBytes bytes → spec_at bytes ≡ Some (s, rest) → Takes bytes (spec_bytes s) rest × IsSpec s
    takes bytes s rest fits e =
        let a = bind_some (name_at bytes) (λ id. string_at id.1 >>= λ options. Some (record { id = id.0; options = options.0 }, options.1)) (s, rest) e in
        let b = bind_some (string_at a.0.1) (λ options. Some (record { id = a.0.0; options = options.0 }, options.1)) (s, rest) a.2 in
        let t = reads_name.takes bytes a.0.0 a.0.1 fits a.1 in
        let u = reads_string.takes a.0.1 b.0.0 b.0.1 t.0.rest_bytes b.1 in
        let both = Takes-then bytes (counted a.0.0) a.0.1 (counted b.0.0) b.0.1 t.0 u.0 in
        let made : Spec × List ℕ = (record { id = a.0.0; options = b.0.0 }, b.0.1) in
        subst (λ (p : Spec × List ℕ). Takes bytes (spec_bytes p.0) p.1 × IsSpec p.0) (some_is made (s, rest) b.2)
        (both, record { short = both_true (ltb (length a.0.0) (2 ^ 32)) (ltb (length b.0.0) (2 ^ 32)) t.1.short u.1; id = t.1.utf8 })

    again : (s : Spec) (rest : List ℕ) → IsSpec s → spec_at (spec_bytes s ++ rest) ≡ Some (s, rest)
    again s rest kind =
        let h = halves (ltb (length s.id) (2 ^ 32)) (ltb (length s.options) (2 ^ 32)) kind.short in
        ap spec_at (append_assoc (counted s.id) (counted s.options) rest)
        ∙ rw (reads_name.again s.id (counted s.options ++ rest) (record { utf8 = kind.id; short = h.0 }), reads_string.again s.options rest h.1) refl

-- ---- all of them

each_short : (ss : List Spec) → Each IsSpec ss → IsTrue (all_by is_short_spec ss) × IsTrue (all_by has_text_id ss)
each_short [] h = (refl, refl)
each_short (s ∷ ss) h =
    let r = each_short ss h.1 in
    (both_true (is_short_spec s) (all_by is_short_spec ss) h.0.short r.0, both_true (has_text_id s) (all_by has_text_id ss) h.0.id r.1)

each_spec : (ss : List Spec) → IsTrue (all_by is_short_spec ss) → IsTrue (all_by has_text_id ss) → Each IsSpec ss
each_spec [] h i = tt
each_spec (s ∷ ss) h i =
    let p = halves (is_short_spec s) (all_by is_short_spec ss) h in
    let q = halves (has_text_id s) (all_by has_text_id ss) i in
    (record { short = p.0; id = q.0 }, each_spec ss p.1 q.1)

abbrev body_bytes : Zoned → List ℕ
body_bytes z = u32_bytes z.zone_len ++ (u32_bytes (length z.specs) ++ joined_by spec_bytes z.specs)

record Taken (bytes : List ℕ) (z : Zoned) : Type 0 where
  whole : body_bytes z ≡ bytes
  kind : IsZoned z

body_takes : (bytes : List ℕ) (z : Zoned) → IsBytes bytes → zoned_body bytes ≡ Some z → Taken bytes z
unfolding zoned_body
body_takes bytes z fits e =
    let a = bind_some (count_at bytes) (λ zone_len. count_at zone_len.1 >>= λ count. many_at spec_at count.0 count.1 >>= λ specs. cond (eqb (length specs.1) 0) (Some (record { zone_len = zone_len.0; specs = specs.0 })) None) z e in
    let b = bind_some (count_at a.0.1) (λ count. many_at spec_at count.0 count.1 >>= λ specs. cond (eqb (length specs.1) 0) (Some (record { zone_len = a.0.0; specs = specs.0 })) None) z a.2 in
    let c = bind_some (many_at spec_at b.0.0 b.0.1) (λ specs. cond (eqb (length specs.1) 0) (Some (record { zone_len = a.0.0; specs = specs.0 })) None) z b.2 in
    let made : Zoned = record { zone_len = a.0.0; specs = c.0.0 } in
    let g = guard_some (eqb (length c.0.1) 0) made z c.2 in
    let t = reads_count.takes bytes a.0.0 a.0.1 fits a.1 in
    let u = reads_count.takes a.0.1 b.0.0 b.0.1 t.0.rest_bytes b.1 in
    let v = many_takes spec_at spec_bytes IsSpec reads_spec b.0.0 b.0.1 c.0 u.0.rest_bytes c.1 in
    let uv = Takes-then a.0.1 (u32_bytes b.0.0) b.0.1 (joined_by spec_bytes c.0.0) c.0.1 u.0 v.0 in
    let counted_uv : Takes a.0.1 (u32_bytes (length c.0.0) ++ joined_by spec_bytes c.0.0) c.0.1 = subst (λ (k : ℕ). Takes a.0.1 (u32_bytes k ++ joined_by spec_bytes c.0.0) c.0.1) (sym v.1) uv in
    let all = Takes-then bytes (u32_bytes a.0.0) a.0.1 (u32_bytes (length c.0.0) ++ joined_by spec_bytes c.0.0) c.0.1 t.0 counted_uv in
    let nothing : c.0.1 ≡ [] = nil_from_length c.0.1 (eqb-true _ _ g.0) in
    let whole : body_bytes made ≡ bytes = sym (all.parts ∙ ap (λ (r : List ℕ). body_bytes made ++ r) nothing ∙ append-nil (body_bytes made)) in
    let few : length c.0.0 < 2 ^ 32 = rw v.1 u.1 in
    let each = each_short c.0.0 v.2 in
    let kind : IsZoned made = record { zone_len = t.1; short = both_true (ltb (length c.0.0) (2 ^ 32)) (all_by is_short_spec c.0.0) (lt-ltb (length c.0.0) (2 ^ 32) few) each.0; ids = each.1 } in
    subst (λ (y : Zoned). Taken bytes y) g.1 (record { whole = whole; kind = kind })

body_again : (z : Zoned) → IsZoned z → zoned_body (body_bytes z) ≡ Some z
unfolding zoned_body
body_again z kind =
    let h = halves (ltb (length z.specs) (2 ^ 32)) (all_by is_short_spec z.specs) kind.short in
    let text : List ℕ = joined_by spec_bytes z.specs in
    let specs : many_at spec_at (length z.specs) text ≡ Some (z.specs, []) = ap (many_at spec_at (length z.specs)) (sym (append-nil text)) ∙ many_again spec_at spec_bytes IsSpec reads_spec z.specs [] (each_spec z.specs h.1 kind.ids) in
    rw (reads_count.again z.zone_len (u32_bytes (length z.specs) ++ text) kind.zone_len, reads_count.again (length z.specs) text (ltb-true (length z.specs) (2 ^ 32) h.0), specs) refl

pub zoned_takes : (bytes : List ℕ) (z : Zoned) → IsBytes bytes → zoned_in bytes ≡ Some z → IsZoned z × (zoned_bytes z ≡ bytes)
zoned_takes [] z fits e = absurd cc
zoned_takes (zero ∷ rest) z fits e = absurd cc
zoned_takes (suc zero ∷ rest) z fits e = let t = body_takes rest z (λ i. fits (suc i)) e in (t.kind, ap (λ (r : List ℕ). 1 ∷ r) t.whole)
zoned_takes (suc (suc b) ∷ rest) z fits e = absurd cc

pub zoned_again : (z : Zoned) → IsZoned z → zoned_in (zoned_bytes z) ≡ Some z
zoned_again z kind = body_again z kind
