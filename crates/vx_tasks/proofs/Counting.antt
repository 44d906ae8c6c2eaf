-- The whole machines: they keep the rules, refuse nowhere, and have so many actions.
use Rattle.std.proofs.Common.{◌≡◌, ℕ, zero, suc, ◌+◌, ◌*◌, Bool, true, false, ◌||◌, List, [], ◌∷◌, length, refl, ap, ◌∙◌, arith, length-append}
use Rattle.vx_path.specs.Path.{Eof, inside, next, under}
use Rattle.vx_tasks.specs.Task.{refuses_in}
use Rattle.vx_tasks.specs.State.{left}
use Rattle.vx_tasks.specs.State.Counts.{Zeros}
use Rattle.vx_tasks.specs.Run.{run, work}
use Rattle.vx_tasks.specs.Rules.{NoneRefuses}
use Rattle.vx_tasks.specs.Nodes.{source_script, batch_paths, chunk_takes, chunked_script, chunked_task, flat_kids, column_puts, column_takes, column_stream, columns_script, columns_task, chunked_columns, acts, closing, numbers}
use Rattle.vx_tasks.specs.Task.Kind.{TakeEnd, Join}
use Rattle.vx_tasks.specs.Good.{Good, ChunkKids, ColumnKids}
use Rattle.vx_tasks.specs.Runs.{chunks_of_flat, struct_of_chunks}
use Rattle.vx_tasks.proofs.Scripts.{refuses_in-append}
use Rattle.vx_tasks.proofs.Runs.{run_exact}
use Rattle.vx_tasks.proofs.Leaves.{flat_good}
use Rattle.vx_tasks.proofs.Chunks.{chunked_good}
use Rattle.vx_tasks.proofs.Columns.{columns_good}
use Rattle.vx_tasks.proofs.Machine.{machine_rules}

batches : (here : Eof) (n : ℕ) → length (batch_paths here n) ≡ n
batches here zero = refl
batches here (suc n) = ap suc (batches (next here) n)

-- The children are good.

flat_kids_good : (name : List ℕ) (j : ℕ) (ps : List (List ℕ)) (e : Eof) → ChunkKids name j ps e (flat_kids name j ps e)
flat_kids_good name j [] e = tt
flat_kids_good name j (p ∷ ps) e = (flat_good (under name j) (inside e) false (p ∷ []) true, flat_kids_good name (suc j) ps (next e))

chunks_good : (name : List ℕ) (ps : List (List ℕ)) (ended : Bool) (e : Eof) → Good name ps ended e (chunked_task name e false ps ended) (flat_kids name 0 ps e)
chunks_good name ps ended e = chunked_good name e ps ended (flat_kids name 0 ps e) (flat_kids_good name 0 ps e)

chunked_columns_good : (name : List ℕ) (c k : ℕ) (ps : List (List ℕ)) (ended : Bool) (e : Eof) → ColumnKids name c k ps ended e (chunked_columns name c k ps ended e)
chunked_columns_good name c zero ps ended e = tt
chunked_columns_good name c (suc k) ps ended e =
    (chunks_good (under name c) (column_stream c ps) ended (inside e), chunked_columns_good name (suc c) k ps ended (next e))

-- None refuses.

source_clean : (here : Eof) (n : ℕ) → refuses_in (source_script here n true) ≡ false
source_clean here zero = refl
source_clean here (suc n) = source_clean (next here) n

takes_clean : (j : ℕ) (ps : List (List ℕ)) (e : Eof) → refuses_in (chunk_takes j ps e) ≡ false
takes_clean j [] e = refl
takes_clean j (p ∷ ps) e = takes_clean (suc j) ps (next e)

flat_kids_clean : (name : List ℕ) (j : ℕ) (ps : List (List ℕ)) (e : Eof) → NoneRefuses (flat_kids name j ps e)
flat_kids_clean name j [] e = tt
flat_kids_clean name j (p ∷ ps) e = (refl, tt, flat_kids_clean name (suc j) ps (next e))

chunks_clean : (ps : List (List ℕ)) (e : Eof) → refuses_in (chunked_script false ps true e) ≡ false
chunks_clean ps e = refuses_in-append (chunk_takes 0 ps e) (acts TakeEnd [] ∷ acts Join [] ∷ []) ∙ ap (λ b. b || false) (takes_clean 0 ps e)

puts_clean : (p : List ℕ) (b k : ℕ) → refuses_in (column_puts p b k) ≡ false
puts_clean p b zero = refl
puts_clean p b (suc k) = puts_clean p (suc b) k

column_takes_clean : (w : ℕ) (ps : List (List ℕ)) → refuses_in (column_takes w ps) ≡ false
column_takes_clean w [] = refl
column_takes_clean w (p ∷ ps) = refuses_in-append (column_puts p 0 w) (column_takes w ps) ∙ ap (λ b. b || refuses_in (column_takes w ps)) (puts_clean p 0 w) ∙ column_takes_clean w ps

columns_clean : (w : ℕ) (ps : List (List ℕ)) → refuses_in (columns_script false w ps true) ≡ false
columns_clean w ps = refuses_in-append (column_takes w ps) (acts TakeEnd [] ∷ closing (numbers 0 w) ∷ acts Join [] ∷ []) ∙ ap (λ b. b || false) (column_takes_clean w ps)

chunked_columns_clean : (name : List ℕ) (c k : ℕ) (ps : List (List ℕ)) (e : Eof) → NoneRefuses (chunked_columns name c k ps true e)
chunked_columns_clean name c zero ps e = tt
chunked_columns_clean name c (suc k) ps e =
    (chunks_clean (column_stream c ps) (inside e), flat_kids_clean (under name c) 0 (column_stream c ps) (inside e), chunked_columns_clean name (suc c) k ps (next e))

-- The number of actions.

source_length : (here : Eof) (n : ℕ) → length (source_script here n true) ≡ 2 * n + 2
source_length here zero = refl
source_length here (suc n) = omega (arith, source_length (next here) n)

takes_length : (j : ℕ) (ps : List (List ℕ)) (e : Eof) → length (chunk_takes j ps e) ≡ length ps
takes_length j [] e = refl
takes_length j (p ∷ ps) e = ap suc (takes_length (suc j) ps (next e))

chunked_length : (ps : List (List ℕ)) (e : Eof) → length (chunked_script false ps true e) ≡ length ps + 2
chunked_length ps e = length-append (chunk_takes 0 ps e) (acts TakeEnd [] ∷ acts Join [] ∷ []) ∙ ap (λ n. n + 2) (takes_length 0 ps e)

flat_kids_left : (name : List ℕ) (j : ℕ) (ps : List (List ℕ)) (e : Eof) → left (flat_kids name j ps e) Zeros ≡ 3 * length ps
flat_kids_left name j [] e = refl
flat_kids_left name j (p ∷ ps) e = omega (arith, flat_kids_left name (suc j) ps (next e))

puts_length : (p : List ℕ) (b k : ℕ) → length (column_puts p b k) ≡ k
puts_length p b zero = refl
puts_length p b (suc k) = ap suc (puts_length p (suc b) k)

column_takes_length : (w : ℕ) (ps : List (List ℕ)) → length (column_takes w ps) ≡ length ps * (1 + w)
column_takes_length w [] = omega arith
column_takes_length w (p ∷ ps) =
    omega (arith, length-append (column_puts p 0 w) (column_takes w ps), puts_length p 0 w, column_takes_length w ps)

stream_length : (c : ℕ) (ps : List (List ℕ)) → length (column_stream c ps) ≡ length ps
stream_length c [] = refl
stream_length c (p ∷ ps) = ap suc (stream_length c ps)

chunked_columns_left : (name : List ℕ) (c k : ℕ) (ps : List (List ℕ)) (e : Eof) → left (chunked_columns name c k ps true e) Zeros ≡ k * (4 * length ps + 2)
chunked_columns_left name c zero ps e = omega arith
chunked_columns_left name c (suc k) ps e =
    omega (
      arith,
      chunked_length (column_stream c ps) (inside e),
      flat_kids_left (under name c) 0 (column_stream c ps) (inside e),
      stream_length c ps,
      chunked_columns_left name (suc c) k ps (next e),
    )

chunked_work : (here e : Eof) (n : ℕ) → work (chunks_of_flat here e n) ≡ 6 * n + 4
chunked_work here e n =
    omega (arith, source_length here n, chunked_length (batch_paths here n) e, flat_kids_left (1 ∷ []) 0 (batch_paths here n) e, batches here n)

struct_work : (here e : Eof) (n c : ℕ) → work (struct_of_chunks here e n c) ≡ 3 * n + 5 + 5 * (c * n) + 2 * c
struct_work here e n c =
    let a : length (column_takes c (batch_paths here n)) ≡ n * (1 + c) =
    column_takes_length c (batch_paths here n) ∙ ap (λ m. m * (1 + c)) (batches here n) in
    let b : left (chunked_columns (1 ∷ []) 0 c (batch_paths here n) true e) Zeros ≡ c * (4 * n + 2) =
    chunked_columns_left (1 ∷ []) 0 c (batch_paths here n) e ∙ ap (λ m. c * (4 * m + 2)) (batches here n) in
    omega (arith, source_length here n, length-append (column_takes c (batch_paths here n)) (acts TakeEnd [] ∷ closing (numbers 0 c) ∷ acts Join [] ∷ []))

pub chunked_steps : (here e : Eof) (n : ℕ) (picks : List ℕ) → length (run (chunks_of_flat here e n) Zeros picks (work (chunks_of_flat here e n))) ≡ 6 * n + 4
chunked_steps here e n picks =
    run_exact (chunks_of_flat here e n) picks
    (machine_rules here n true e (chunked_task (1 ∷ []) e false (batch_paths here n) true) (flat_kids (1 ∷ []) 0 (batch_paths here n) e) (chunks_good (1 ∷ []) (batch_paths here n) true e))
    (source_clean here n, (chunks_clean (batch_paths here n) e, flat_kids_clean (1 ∷ []) 0 (batch_paths here n) e, tt), tt)
    ∙ chunked_work here e n

pub struct_steps : (here e : Eof) (n c : ℕ) (picks : List ℕ) → length (run (struct_of_chunks here e n c) Zeros picks (work (struct_of_chunks here e n c))) ≡ 3 * n + 5 + 5 * (c * n) + 2 * c
struct_steps here e n c picks =
    run_exact (struct_of_chunks here e n c) picks
    (machine_rules here n true e (columns_task (1 ∷ []) e false c (batch_paths here n) true) (chunked_columns (1 ∷ []) 0 c (batch_paths here n) true e)
    (columns_good (1 ∷ []) e false c (batch_paths here n) true (chunked_columns (1 ∷ []) 0 c (batch_paths here n) true e)
    (chunked_columns_good (1 ∷ []) 0 c (batch_paths here n) true e)))
    (source_clean here n, (columns_clean c (batch_paths here n), chunked_columns_clean (1 ∷ []) 0 c (batch_paths here n) e, tt), tt)
    ∙ struct_work here e n c
