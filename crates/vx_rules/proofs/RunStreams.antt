-- The streams of runs: their rows, their chunks, their paths and their beginnings.
use Rattle.std.proofs.Common.{◌≡◌, ℕ, zero, suc, ◌+◌, ◌-◌, ◌<◌, ◌≤◌, ◌^◌, ◌⊎◌, Bool, true, false, List, [], ◌∷◌, ◌++◌, map, length, Option, Some, None, refl, sym, ap, ap₂, ◌∙◌, subst, inl, inr, ⊎_elim, arith, append_assoc, length-append}
use Rattle.std.specs.Prelude.{if◌then◌else◌, nat_le, nat_lt, min, max, pos}
use Rattle.std.proofs.lemmas.Bool.{cases_Bool, true≢false, and_from}
use Rattle.std.proofs.lemmas.Bool.Decides.{nat_tests}
use Rattle.std.proofs.lemmas.List.{append-nil, length-map, map-append}
use Rattle.vx_model.specs.declared.ptype.PType.TheVariants.{U8, U16}
use Rattle.vx_model.specs.Words.{all_by}
use Rattle.vx_model.specs.Ty.{Ty, primitive}
use Rattle.vx_model.specs.CellData.{CellData, fits}
use Rattle.vx_model.specs.ChunkData.{ChunkData, plain_piece, cells, is_dict_type}
use Rattle.vx_path.specs.Lists.{In}
use Rattle.vx_path.specs.Path.{begins, meets, Scattered, under}
use Rattle.vx_path.proofs.Lists.{in_left, in_right, in_cases}
use Rattle.vx_path.proofs.Path.{begins-under, under_apart}
use Rattle.vx_layout_spec.specs.Real.{Of, is_real_cell}
use Rattle.vx_rules.specs.Stream.{Chunk, chunk_paths, stream_cells, Chunks}
use Rattle.vx_rules.specs.Columns.{offset_cell}
use Rattle.vx_rules.specs.Runs.{DictOptions, most_cells, Cut, code_type, codes_piece, Run, ended_runs, next_codes, open_run, cut_at, runs_from, runs}
use Rattle.vx_rules.proofs.CellLaws.{Fine, cells_fine, plain_of}
use Rattle.vx_rules.proofs.RegroupLaws.{stream_cells-append, chunks_append, chunk_paths-append, Onto, scattered_both, apart_both}
use Rattle.vx_rules.proofs.RunLaws.{Is, Extends, extends_self, Decodes, decodes_more, decodes_append, decodes_length, decodes_none, Distinct, Gives, stretches_give}

-- ---- rows

-- a run that has ended: its codes' and values' cells give the rows
pub record Ended (o : DictOptions) (t : Ty) (run : Run) (rows : List CellData) : Type 0 where
  pub codes : List ℕ
  pub distinct : List CellData
  pub codes_cells : stream_cells run.codes ≡ map offset_cell codes
  pub values_cells : stream_cells run.values ≡ distinct
  pub decodes : Decodes distinct codes rows
  pub codes_of : Chunks (code_type o) run.codes
  pub values_of : Chunks t run.values
  pub closed : run.closed ≡ true

-- runs that have ended, and their rows joined
abbrev pub AllEnded : DictOptions → Ty → List Run → List CellData → Type 0
AllEnded o t [] rows = rows ≡ []
AllEnded o t (r ∷ rs) rows = (part : List CellData) × (later : List CellData) × (rows ≡ part ++ later) × Ended o t r part × AllEnded o t rs later

all_ended_append : (o : DictOptions) (t : Ty) (rs ss : List Run) (rows more : List CellData) → AllEnded o t rs rows → AllEnded o t ss more → AllEnded o t (rs ++ ss) (rows ++ more)
all_ended_append o t [] ss rows more g h = subst (λ z. AllEnded o t ss (z ++ more)) (sym g) h
all_ended_append o t (r ∷ rs) ss rows more g h =
    (g.0, g.1 ++ more, ap (λ z. z ++ more) g.2 ∙ append_assoc g.0 g.1 more, g.3, all_ended_append o t rs ss g.1 more g.4 h)

-- the run that goes on, with its codes so far
pub record Going (o : DictOptions) (t : Ty) (ds : List CellData) (cur : List Chunk) (rows : List CellData) : Type 0 where
  pub codes : List ℕ
  pub codes_cells : stream_cells cur ≡ map offset_cell codes
  pub decodes : Decodes ds codes rows
  pub codes_of : Chunks (code_type o) cur

code_fits : (o : DictOptions) (t : Ty) (ds : List CellData) (n : ℕ) → Distinct o t ds → n < length ds → fits (code_type o) (offset_cell n) ≡ true
code_fits o t ds n d lt = go (nat_le o.max_len 255) (few_small o.max_len (length ds)) d.few
  where
    few_small : (m l : ℕ) → nat_le m 255 ≡ true → l ≤ max 1 (min m (2 ^ 16 - 1)) → l ≤ 255
    few_small m l h k = grind (arith, nat_tests)

    u8 : (n : ℕ) → n < 256 → fits (primitive U8 false) (offset_cell n) ≡ true
    u8 n h = grind (arith, nat_tests)

    u16 : (n : ℕ) → n < 65536 → fits (primitive U16 false) (offset_cell n) ≡ true
    u16 n h = grind (arith, nat_tests)

    go : (b : Bool) → (b ≡ true → length ds ≤ max 1 (min o.max_len (2 ^ 16 - 1)) → length ds ≤ 255) → length ds ≤ max 1 (min o.max_len (2 ^ 16 - 1))
        → fits (primitive (if b then U8 else U16) false) (offset_cell n) ≡ true
    go true f h = let k : length ds ≤ 255 = f refl h in u8 n (omega arith)
    go false f h = u16 n (omega arith)

codes_fit : (o : DictOptions) (t : Ty) (ds : List CellData) (ns : List ℕ) (cs : List CellData) → Distinct o t ds → Decodes ds ns cs
    → (all_by (fits (code_type o)) (map offset_cell ns) ≡ true) × (all_by is_real_cell (map offset_cell ns) ≡ true)
codes_fit o t ds [] [] d h = (refl, refl)
codes_fit o t ds [] (c ∷ cs) d h = absurd h
codes_fit o t ds (n ∷ ns) [] d h = absurd h
codes_fit o t ds (n ∷ ns) (c ∷ cs) d h =
    let r : (all_by (fits (code_type o)) (map offset_cell ns) ≡ true) × (all_by is_real_cell (map offset_cell ns) ≡ true) = codes_fit o t ds ns cs d h.1 in
    (and_from (fits (code_type o) (offset_cell n)) _ (code_fits o t ds n d h.0.0) r.0, r.1)

codes_whole : (o : DictOptions) (t : Ty) (ds : List CellData) (ns : List ℕ) (cs : List CellData) → Distinct o t ds → Decodes ds ns cs → length cs < 2 ^ 64 → Of (code_type o) (codes_piece o ns)
codes_whole o t ds ns cs d h lt =
    let f : (all_by (fits (code_type o)) (map offset_cell ns) ≡ true) × (all_by is_real_cell (map offset_cell ns) ≡ true) = codes_fit o t ds ns cs d h in
    let l : length ns ≡ length cs = decodes_length ds ns cs h in
    let k : length (map offset_cell ns) ≡ length ns = length-map ns offset_cell in
    plain_of (code_type o) (map offset_cell ns) (record { fit = f.0; real = f.1; short = omega arith })

values_whole : (o : DictOptions) (t : Ty) (ds : List CellData) → Distinct o t ds → Of t (plain_piece t ds)
values_whole o t ds d = plain_of t ds (record { fit = d.fit; real = d.real; short = short d.few })
  where
    short : length ds ≤ max 1 (min o.max_len (2 ^ 16 - 1)) → length ds < 2 ^ 64
    short h = omega arith

-- one more codes chunk
going_more : (o : DictOptions) (t : Ty) (ds es : List CellData) (cur : List Chunk) (p : List ℕ) (ns : List ℕ) (done rows : List CellData)
    → Going o t ds cur done → Extends ds es → Decodes es ns rows → Distinct o t es → length rows < 2 ^ 64 → Going o t es (cur ++ ((p, codes_piece o ns) ∷ [])) (done ++ rows)
going_more o t ds es cur p ns done rows g x h d lt = record {
  codes = g.codes ++ ns;
  codes_cells = stream_cells-append cur ((p, codes_piece o ns) ∷ []) ∙ ap₂ (λ a b. a ++ b) g.codes_cells (append-nil (map offset_cell ns)) ∙ sym (map-append offset_cell g.codes ns);
  decodes = decodes_append es g.codes ns done rows (decodes_more ds es g.codes done x g.decodes) h;
  codes_of = chunks_append (code_type o) cur ((p, codes_piece o ns) ∷ []) g.codes_of (codes_whole o t es ns rows d h lt, tt);
}

going_none : (o : DictOptions) (t : Ty) → Going o t [] [] []
going_none o t = record { codes = []; codes_cells = refl; decodes = tt; codes_of = tt }

-- The runs that end at a chunk, and the one that goes on, split the rows so far.
pub record Parted (o : DictOptions) (t : Ty) (rs : List Run) (es : List CellData) (next : List Chunk) (rows : List CellData) : Type 0 where
  pub before : List CellData
  pub after : List CellData
  pub split : rows ≡ before ++ after
  pub ended : AllEnded o t rs before
  pub going : Going o t es next after

parted : (o : DictOptions) (t : Ty) (p : List ℕ) (r : ℕ) (ds : List CellData) (cur : List Chunk) (done : List CellData) (closed : List (List ℕ × List CellData)) (codes : List ℕ) (es rows : List CellData)
    → Going o t ds cur done → Gives o t ds closed codes es rows → length rows < 2 ^ 64
    → Parted o t (ended_runs o t p r cur closed) es (next_codes o p r cur closed codes) (done ++ rows)
parted o t p r ds cur done [] codes es rows g h lt = record {
  before = [];
  after = done ++ rows;
  split = refl;
  ended = refl;
  going = going_more o t ds es cur (under p r) codes done rows g h.0 h.1 h.2 lt;
}
parted o t p r ds cur done (x ∷ xs) codes es rows g h lt =
    let l : length rows ≡ length h.0 + length h.1 = ap length h.2 ∙ length-append h.0 h.1 in
    let one : Going o t x.1 (cur ++ ((under p r, codes_piece o x.0) ∷ [])) (done ++ h.0) = going_more o t ds x.1 cur (under p r) x.0 done h.0 g h.3 h.4 h.5 (omega arith) in
    let rest : Parted o t (ended_runs o t p (r + 2) [] xs) es (next_codes o p (r + 2) [] xs codes) ([] ++ h.1) = parted o t p (r + 2) [] [] [] xs codes es h.1 (going_none o t) h.6 (omega arith) in
    record {
      before = (done ++ h.0) ++ rest.before;
      after = rest.after;
      split = ap (λ z. done ++ z) h.2 ∙ sym (append_assoc done h.0 h.1) ∙ ap (λ z. (done ++ h.0) ++ z) rest.split ∙ sym (append_assoc (done ++ h.0) rest.before rest.after);
      ended = (
        done ++ h.0,
        rest.before,
        refl,
        record {
          codes = one.codes;
          distinct = x.1;
          codes_cells = one.codes_cells;
          values_cells = append-nil x.1;
          decodes = one.decodes;
          codes_of = one.codes_of;
          values_of = (values_whole o t x.1 h.5, tt);
          closed = refl;
        },
        rest.ended,
      );
      going = rest.going;
    }

-- where the last run ends too, nothing goes on
closing : (o : DictOptions) (t : Ty) (ds : List CellData) (closed : List (List ℕ × List CellData)) (codes : List ℕ) (es rows : List CellData) → Gives o t ds closed codes es rows
    → Gives o t ds (closed ++ ((codes, es) ∷ [])) [] [] rows
closing o t ds [] codes es rows h = (rows, [], sym (append-nil rows), h.0, h.1, h.2, (extends_self [], tt, record { fit = refl; real = refl; few = omega arith }))
closing o t ds (x ∷ xs) codes es rows h = (h.0, h.1, h.2, h.3, h.4, h.5, closing o t [] xs codes es h.1 h.6)

at_chunk : (o : DictOptions) (t : Ty) → is_dict_type t ≡ true → (ds : List CellData) → Distinct o t ds → (c : Chunk) → Of t c.1
    → Gives o t ds (cut_at o t ds c).closed (cut_at o t ds c).codes (cut_at o t ds c).distinct (cells c.1)
at_chunk o t d ds few c of =
    let f : Fine t (cells c.1) = cells_fine t c.1 of in
    stretches_give o t d ds ds [] [] (cells c.1) (extends_self ds) tt few f.fit f.real

gives_distinct : (o : DictOptions) (t : Ty) (ds : List CellData) (closed : List (List ℕ × List CellData)) (codes : List ℕ) (es rows : List CellData) → Gives o t ds closed codes es rows → Distinct o t es
gives_distinct o t ds [] codes es rows h = h.2
gives_distinct o t ds (x ∷ xs) codes es rows h = gives_distinct o t [] xs codes es h.1 h.6

ended_from : (o : DictOptions) (t : Ty) → is_dict_type t ≡ true → (ds : List CellData) (cur : List Chunk) (done : List CellData) (c : Chunk) (cs : List Chunk) → Distinct o t ds → Going o t ds cur done → Chunks t (c ∷ cs)
    → AllEnded o t (runs_from o t ds cur (c ∷ cs) true) (done ++ stream_cells (c ∷ cs))
ended_from o t d ds cur done c [] few g of =
    let cut : Cut = cut_at o t ds c in
    let lt : length (cells c.1) < 2 ^ 64 = (cells_fine t c.1 of.0).short in
    let p : Parted o t (ended_runs o t c.0 0 cur (cut.closed ++ ((cut.codes, cut.distinct) ∷ []))) [] (next_codes o c.0 0 cur (cut.closed ++ ((cut.codes, cut.distinct) ∷ [])) []) (done ++ cells c.1) =
    parted o t c.0 0 ds cur done (cut.closed ++ ((cut.codes, cut.distinct) ∷ [])) [] [] (cells c.1) g (closing o t ds cut.closed cut.codes cut.distinct (cells c.1) (at_chunk o t d ds few c of.0)) lt in
    subst (AllEnded o t (runs_from o t ds cur (c ∷ []) true))
    (sym (append-nil p.before) ∙ ap (λ z. p.before ++ z) (sym (decodes_none p.going.codes p.after p.going.decodes).1) ∙ sym p.split ∙ ap (λ z. done ++ z) (sym (append-nil (cells c.1)))) p.ended
ended_from o t d ds cur done c (e ∷ cs) few g of =
    let cut : Cut = cut_at o t ds c in
    let gives : Gives o t ds cut.closed cut.codes cut.distinct (cells c.1) = at_chunk o t d ds few c of.0 in
    let lt : length (cells c.1) < 2 ^ 64 = (cells_fine t c.1 of.0).short in
    let p : Parted o t (ended_runs o t c.0 0 cur cut.closed) cut.distinct (next_codes o c.0 0 cur cut.closed cut.codes) (done ++ cells c.1) =
    parted o t c.0 0 ds cur done cut.closed cut.codes cut.distinct (cells c.1) g gives lt in
    let rest : AllEnded o t (runs_from o t cut.distinct (next_codes o c.0 0 cur cut.closed cut.codes) (e ∷ cs) true) (p.after ++ stream_cells (e ∷ cs)) =
    ended_from o t d cut.distinct (next_codes o c.0 0 cur cut.closed cut.codes) p.after e cs (gives_distinct o t ds cut.closed cut.codes cut.distinct (cells c.1) gives) p.going of.1 in
    subst (AllEnded o t (runs_from o t ds cur (c ∷ e ∷ cs) true))
    (sym (append_assoc p.before p.after (stream_cells (e ∷ cs))) ∙ ap (λ z. z ++ stream_cells (e ∷ cs)) (sym p.split) ∙ append_assoc done (cells c.1) (stream_cells (e ∷ cs)))
    (all_ended_append o t (ended_runs o t c.0 0 cur cut.closed) (runs_from o t cut.distinct (next_codes o c.0 0 cur cut.closed cut.codes) (e ∷ cs) true) p.before (p.after ++ stream_cells (e ∷ cs)) p.ended rest)

-- the runs of an ended stream have all ended, and have its rows in order
pub runs_end : (o : DictOptions) (t : Ty) → is_dict_type t ≡ true → (c : Chunk) (cs : List Chunk) → Chunks t (c ∷ cs) → AllEnded o t (runs o t (c ∷ cs) true) (stream_cells (c ∷ cs))
runs_end o t d c cs of = ended_from o t d [] [] [] c cs (record { fit = refl; real = refl; few = omega arith }) (going_none o t) of

-- ---- prefixes

-- A run that has ended stays; one that hasn't has no values yet, and its codes go on.
abbrev pub RunGrows : Run → Run → Type 0
RunGrows r q = (r ≡ q) ⊎ ((r.closed ≡ false) × (r.values ≡ []) × ((more : List Chunk) × (q.codes ≡ r.codes ++ more)))

abbrev pub RunsGrow : List Run → List Run → Type 0
RunsGrow [] qs = Unit {0}
RunsGrow (r ∷ rs) [] = ⊥
RunsGrow (r ∷ rs) (q ∷ qs) = RunGrows r q × RunsGrow rs qs

runs_same : (rs qs ps : List Run) → RunsGrow qs ps → RunsGrow (rs ++ qs) (rs ++ ps)
runs_same [] qs ps h = h
runs_same (r ∷ rs) qs ps h = (inl refl, runs_same rs qs ps h)

-- the runs of what follows begin with the codes so far
pub record Continues (cur : List Chunk) (rs : List Run) : Type 0 where
  pub first : Run
  pub others : List Run
  pub same : rs ≡ first ∷ others
  pub more : List Chunk
  pub codes : first.codes ≡ cur ++ more

ended_continue : (o : DictOptions) (t : Ty) (p : List ℕ) (r : ℕ) (cur : List Chunk) (x : List ℕ × List CellData) (xs : List (List ℕ × List CellData)) (rs : List Run) → Continues cur (ended_runs o t p r cur (x ∷ xs) ++ rs)
ended_continue o t p r cur x xs rs = record {
  first = record { codes = cur ++ ((under p r, codes_piece o x.0) ∷ []); values = (under p (suc r), plain_piece t x.1) ∷ []; closed = true };
  others = ended_runs o t p (r + 2) [] xs ++ rs;
  same = refl;
  more = (under p r, codes_piece o x.0) ∷ [];
  codes = refl;
}

close_continue : (o : DictOptions) (t : Ty) (p : List ℕ) (r : ℕ) (cur : List Chunk) (closed : List (List ℕ × List CellData)) (x : List ℕ × List CellData) → Continues cur (ended_runs o t p r cur (closed ++ (x ∷ [])))
close_continue o t p r cur [] x = subst (Continues cur) (append-nil (ended_runs o t p r cur (x ∷ []))) (ended_continue o t p r cur x [] [])
close_continue o t p r cur (y ∷ closed) x = subst (Continues cur) (append-nil (ended_runs o t p r cur (y ∷ closed ++ (x ∷ [])))) (ended_continue o t p r cur y (closed ++ (x ∷ [])) [])

open_continue : (c : Chunk) (cur : List Chunk) → Continues (c ∷ cur) (open_run (c ∷ cur))
open_continue c cur = record { first = record { codes = c ∷ cur; values = []; closed = false }; others = []; same = refl; more = []; codes = sym (append-nil (c ∷ cur)) }

is_some : List Chunk → Bool
is_some [] = false
is_some (c ∷ cs) = true

continue_further : (cur more : List Chunk) (rs : List Run) → Continues (cur ++ more) rs → Continues cur rs
continue_further cur more rs c = record { first = c.first; others = c.others; same = c.same; more = more ++ c.more; codes = c.codes ∙ append_assoc cur more c.more }

next_some : (o : DictOptions) (p : List ℕ) (r : ℕ) (cur : List Chunk) (closed : List (List ℕ × List CellData)) (codes : List ℕ) → (c : Chunk) × (cs : List Chunk) × (next_codes o p r cur closed codes ≡ c ∷ cs)
next_some o p r [] [] codes = ((under p r, codes_piece o codes), [], refl)
next_some o p r (c ∷ cur) [] codes = (c, cur ++ ((under p r, codes_piece o codes) ∷ []), refl)
next_some o p r cur (x ∷ xs) codes = next_some o p (r + 2) [] xs codes

runs_continue : (o : DictOptions) (t : Ty) (ds : List CellData) (c : Chunk) (cur : List Chunk) (x : Chunk) (xs : List Chunk) (ended : Bool) → Continues (c ∷ cur) (runs_from o t ds (c ∷ cur) (x ∷ xs) ended)
runs_continue o t ds c cur x [] true = close_continue o t x.0 0 (c ∷ cur) (cut_at o t ds x).closed ((cut_at o t ds x).codes, (cut_at o t ds x).distinct)
runs_continue o t ds c cur x [] false = open_continue c cur
runs_continue o t ds c cur x (y ∷ xs) ended = go (cut_at o t ds x).closed
    (λ m ms e. runs_continue o t (cut_at o t ds x).distinct m ms y xs ended)
  where
    go : (closed : List (List ℕ × List CellData)) → ((m : Chunk) (ms : List Chunk) (e : Unit {0}) → Continues (m ∷ ms) (runs_from o t (cut_at o t ds x).distinct (m ∷ ms) (y ∷ xs) ended))
        → Continues (c ∷ cur) (ended_runs o t x.0 0 (c ∷ cur) closed ++ runs_from o t (cut_at o t ds x).distinct (next_codes o x.0 0 (c ∷ cur) closed (cut_at o t ds x).codes) (y ∷ xs) ended)
    go [] f = continue_further (c ∷ cur) ((under x.0 0, codes_piece o (cut_at o t ds x).codes) ∷ []) (runs_from o t (cut_at o t ds x).distinct (c ∷ cur ++ ((under x.0 0, codes_piece o (cut_at o t ds x).codes) ∷ [])) (y ∷ xs) ended)
        (f c (cur ++ ((under x.0 0, codes_piece o (cut_at o t ds x).codes) ∷ [])) tt)
    go (z ∷ zs) f = ended_continue o t x.0 0 (c ∷ cur) z zs (runs_from o t (cut_at o t ds x).distinct (next_codes o x.0 2 [] zs (cut_at o t ds x).codes) (y ∷ xs) ended)

open_grows : (cur : List Chunk) (rs : List Run) → Continues cur rs → RunsGrow (open_run cur) rs
open_grows [] rs c = tt
open_grows (k ∷ cur) rs c = subst (RunsGrow (open_run (k ∷ cur))) (sym c.same) (inr (refl, refl, (c.more, c.codes)), tt)

-- the runs of an open stream grow into those of a longer one
runs_from_grow : (o : DictOptions) (t : Ty) (ds : List CellData) (cur : List Chunk) (x : Chunk) (xs ys : List Chunk) (ended : Bool)
    → RunsGrow (runs_from o t ds cur (x ∷ xs) false) (runs_from o t ds cur (x ∷ xs ++ ys) ended)
runs_from_grow o t ds [] x [] ys ended = tt
runs_from_grow o t ds (c ∷ cur) x [] ys ended = open_grows (c ∷ cur) (runs_from o t ds (c ∷ cur) (x ∷ ys) ended) (runs_continue o t ds c cur x ys ended)
runs_from_grow o t ds cur x (y ∷ xs) ys ended =
    runs_same (ended_runs o t x.0 0 cur (cut_at o t ds x).closed)
    (runs_from o t (cut_at o t ds x).distinct (next_codes o x.0 0 cur (cut_at o t ds x).closed (cut_at o t ds x).codes) (y ∷ xs) false)
    (runs_from o t (cut_at o t ds x).distinct (next_codes o x.0 0 cur (cut_at o t ds x).closed (cut_at o t ds x).codes) (y ∷ xs ++ ys) ended)
    (runs_from_grow o t (cut_at o t ds x).distinct (next_codes o x.0 0 cur (cut_at o t ds x).closed (cut_at o t ds x).codes) y xs ys ended)

pub runs_grow : (o : DictOptions) (t : Ty) (x : Chunk) (xs ys : List Chunk) (ended : Bool) → RunsGrow (runs o t (x ∷ xs) false) (runs o t (x ∷ xs ++ ys) ended)
runs_grow o t x xs ys ended = runs_from_grow o t [] [] x xs ys ended

-- ---- paths

abbrev pub run_paths : List Run → List (List ℕ)
run_paths [] = []
run_paths (r ∷ rs) = chunk_paths r.codes ++ (chunk_paths r.values ++ run_paths rs)

run_paths-append : (rs qs : List Run) → run_paths (rs ++ qs) ≡ run_paths rs ++ run_paths qs
run_paths-append [] qs = refl
run_paths-append (r ∷ rs) qs =
    ap (λ z. chunk_paths r.codes ++ (chunk_paths r.values ++ z)) (run_paths-append rs qs)
    ∙ ap (λ z. chunk_paths r.codes ++ z) (sym (append_assoc (chunk_paths r.values) (run_paths rs) (run_paths qs)))
    ∙ sym (append_assoc (chunk_paths r.codes) (chunk_paths r.values ++ run_paths rs) (run_paths qs))

-- the paths that are made at the chunk at p, from rank r on
abbrev pub made : List ℕ → ℕ → ℕ → List (List ℕ)
made p r zero = []
made p r (suc n) = under p r ∷ made p (suc r) n

made_append : (p : List ℕ) (r m n : ℕ) → made p r (m + n) ≡ made p r m ++ made p (r + m) n
made_append p r zero n = ap₂ (λ a b. made p a b) (let h : r ≡ r + 0 = omega arith in h) (let h : 0 + n ≡ n = omega arith in h)
made_append p r (suc m) n =
    ap (made p r) (let h : suc m + n ≡ suc (m + n) = omega arith in h) ∙ ap (λ z. under p r ∷ z) (made_append p (suc r) m n ∙ ap (λ z. made p (suc r) m ++ made p z n) (let h : suc r + m ≡ r + suc m = omega arith in h))

abbrev two : List (List ℕ × List CellData) → ℕ
two [] = 0
two (x ∷ xs) = suc (suc (two xs))

-- what ends at a chunk, and the codes that go on, are at the codes' paths so far and at those made there
at_paths : (o : DictOptions) (t : Ty) (p : List ℕ) (r : ℕ) (cur : List Chunk) (closed : List (List ℕ × List CellData)) (codes : List ℕ)
    → run_paths (ended_runs o t p r cur closed) ++ chunk_paths (next_codes o p r cur closed codes) ≡ chunk_paths cur ++ made p r (suc (two closed))
at_paths o t p r cur [] codes = chunk_paths-append cur ((under p r, codes_piece o codes) ∷ [])
at_paths o t p r cur (x ∷ xs) codes =
    append_assoc (chunk_paths (cur ++ ((under p r, codes_piece o x.0) ∷ []))) (under p (suc r) ∷ run_paths (ended_runs o t p (r + 2) [] xs)) (chunk_paths (next_codes o p (r + 2) [] xs codes))
    ∙ ap₂ (λ a b. a ++ (under p (suc r) ∷ b)) (chunk_paths-append cur ((under p r, codes_piece o x.0) ∷ []))
    (at_paths o t p (r + 2) [] xs codes ∙ ap (λ z. made p z (suc (two xs))) (let h : r + 2 ≡ suc (suc r) = omega arith in h))
    ∙ append_assoc (chunk_paths cur) (under p r ∷ []) (under p (suc r) ∷ made p (suc (suc r)) (suc (two xs)))

closed_paths : (o : DictOptions) (t : Ty) (p : List ℕ) (r : ℕ) (cur : List Chunk) (x : List ℕ × List CellData) (closed : List (List ℕ × List CellData))
    → run_paths (ended_runs o t p r cur (x ∷ closed)) ≡ chunk_paths cur ++ made p r (suc (suc (two closed)))
closed_paths o t p r cur x [] =
    ap (λ a. a ++ (under p (suc r) ∷ [])) (chunk_paths-append cur ((under p r, codes_piece o x.0) ∷ []))
    ∙ append_assoc (chunk_paths cur) (under p r ∷ []) (under p (suc r) ∷ [])
closed_paths o t p r cur x (y ∷ ys) =
    ap₂ (λ a b. a ++ (under p (suc r) ∷ b)) (chunk_paths-append cur ((under p r, codes_piece o x.0) ∷ []))
    (closed_paths o t p (r + 2) [] y ys ∙ ap (λ z. made p z (suc (suc (two ys)))) (let h : r + 2 ≡ suc (suc r) = omega arith in h))
    ∙ append_assoc (chunk_paths cur) (under p r ∷ []) (under p (suc r) ∷ made p (suc (suc r)) (suc (suc (two ys))))

-- the paths of all runs: those so far, then others made at the chunks
pub record Made (cur : List (List ℕ)) (rs : List Run) (ps : List (List ℕ)) : Type 0 where
  pub others : List (List ℕ)
  pub same : run_paths rs ≡ cur ++ others
  pub onto : Onto others ps

made_path : (p : List ℕ) (r n : ℕ) (x : List ℕ) → In x (made p r n) → (k : ℕ) × (r ≤ k) × (x ≡ under p k)
made_path p r zero x h = absurd h
made_path p r (suc n) x h = ⊎_elim (λ e. (r, omega arith, e))
    (λ i. let w : (k : ℕ) × (suc r ≤ k) × (x ≡ under p k) = made_path p (suc r) n x i in (w.0, (let l : suc r ≤ w.0 = w.1 in omega arith), w.2)) h

made_scattered : (p : List ℕ) (r n : ℕ) → Scattered (made p r n)
made_scattered p r zero = tt
made_scattered p r (suc n) = (
  λ q h. let w : (k : ℕ) × (suc r ≤ k) × (q ≡ under p k) = made_path p (suc r) n q h in let l : suc r ≤ w.0 = w.1 in
      subst (λ z. meets (under p r) z ≡ false) (sym w.2) (under_apart p r w.0 (omega arith)),
  made_scattered p (suc r) n,
)

made_begins : (p : List ℕ) (r n : ℕ) (x : List ℕ) → In x (made p r n) → begins p x ≡ true
made_begins p r n x h =
    let w : (k : ℕ) × (r ≤ k) × (x ≡ under p k) = made_path p r n x h in
    subst (λ z. begins p z ≡ true) (sym w.2) (begins-under p w.0)

made_onto : (p : List ℕ) (r n : ℕ) (ps qs : List (List ℕ)) → Onto ps qs → Onto (made p r n ++ ps) (p ∷ qs)
made_onto p r n ps qs o = record {
  scattered = λ s. scattered_both (made p r n) ps (made_scattered p r n) (o.scattered s.1)
      (λ a b i j. let w : (q : List ℕ) × In q qs × (begins q b ≡ true) = o.from b j in apart_both p w.0 a b (s.0 w.0 w.1) (made_begins p r n a i) w.2);
  from = λ x h. ⊎_elim (λ i. (p, inl refl, made_begins p r n x i)) (λ j. let w : (q : List ℕ) × In q qs × (begins q x ≡ true) = o.from x j in (w.0, inr w.1, w.2)) (in_cases x (made p r n) ps h);
}

none_onto : (qs : List (List ℕ)) → Onto [] qs
none_onto qs = record { scattered = λ s. tt; from = λ p h. absurd h }

open_paths : (cur : List Chunk) → run_paths (open_run cur) ≡ chunk_paths cur
open_paths [] = refl
open_paths (c ∷ cur) = append-nil (chunk_paths (c ∷ cur))

runs_from_made : (o : DictOptions) (t : Ty) (ds : List CellData) (cur : List Chunk) (c : Chunk) (cs : List Chunk) (ended : Bool)
    → Made (chunk_paths cur) (runs_from o t ds cur (c ∷ cs) ended) (chunk_paths (c ∷ cs))
runs_from_made o t ds cur c [] false = record { others = []; same = open_paths cur ∙ sym (append-nil (chunk_paths cur)); onto = none_onto (c.0 ∷ []) }
runs_from_made o t ds cur c [] true = go (cut_at o t ds c).closed
  where
    go : (closed : List (List ℕ × List CellData)) → Made (chunk_paths cur) (ended_runs o t c.0 0 cur (closed ++ (((cut_at o t ds c).codes, (cut_at o t ds c).distinct) ∷ []))) (c.0 ∷ [])
    go [] = record { others = made c.0 0 2; same = closed_paths o t c.0 0 cur ((cut_at o t ds c).codes, (cut_at o t ds c).distinct) []; onto = subst (λ z. Onto z (c.0 ∷ [])) (append-nil (made c.0 0 2)) (made_onto c.0 0 2 [] [] (none_onto [])) }
    go (x ∷ xs) =
        let n : ℕ = suc (suc (two (xs ++ (((cut_at o t ds c).codes, (cut_at o t ds c).distinct) ∷ [])))) in
        record { others = made c.0 0 n; same = closed_paths o t c.0 0 cur x (xs ++ (((cut_at o t ds c).codes, (cut_at o t ds c).distinct) ∷ [])); onto = subst (λ z. Onto z (c.0 ∷ [])) (append-nil (made c.0 0 n)) (made_onto c.0 0 n [] [] (none_onto [])) }
runs_from_made o t ds cur c (e ∷ cs) ended =
    let cut : Cut = cut_at o t ds c in
    let next : List Chunk = next_codes o c.0 0 cur cut.closed cut.codes in
    let r : Made (chunk_paths next) (runs_from o t cut.distinct next (e ∷ cs) ended) (chunk_paths (e ∷ cs)) = runs_from_made o t cut.distinct next e cs ended in
    record {
      others = made c.0 0 (suc (two cut.closed)) ++ r.others;
      same = run_paths-append (ended_runs o t c.0 0 cur cut.closed) (runs_from o t cut.distinct next (e ∷ cs) ended)
          ∙ ap (λ z. run_paths (ended_runs o t c.0 0 cur cut.closed) ++ z) r.same
          ∙ sym (append_assoc (run_paths (ended_runs o t c.0 0 cur cut.closed)) (chunk_paths next) r.others)
          ∙ ap (λ z. z ++ r.others) (at_paths o t c.0 0 cur cut.closed cut.codes)
          ∙ append_assoc (chunk_paths cur) (made c.0 0 (suc (two cut.closed))) r.others;
      onto = made_onto c.0 0 (suc (two cut.closed)) r.others (chunk_paths (e ∷ cs)) r.onto;
    }

-- the runs' paths go on from the stream's, and none is a prefix of another
pub runs_onto : (o : DictOptions) (t : Ty) (c : Chunk) (cs : List Chunk) (ended : Bool) → Onto (run_paths (runs o t (c ∷ cs) ended)) (chunk_paths (c ∷ cs))
runs_onto o t c cs ended =
    let r : Made [] (runs o t (c ∷ cs) ended) (chunk_paths (c ∷ cs)) = runs_from_made o t [] [] c cs ended in
    subst (λ z. Onto z (chunk_paths (c ∷ cs))) (sym r.same) r.onto
