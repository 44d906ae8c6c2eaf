-- One pointer holds all that is active.
use Rattle.std.proofs.Common.{◌≡◌, ◌≢◌, ◌≤◌, ℕ, Bool, true, false, List, is_some, ap, ◌∙◌, ⊎_elim, arith}
use Rattle.std.specs.FinMap as map
use Rattle.vx_path.specs.Path.{Eof, eof_path}
use Rattle.vx_sequence.specs.Universe.{path_cmp, only}
use Rattle.vx_sequence.proofs.Sets.{one_path, get-inserted, get-insert_other}
use Rattle.vx_machine_ids.specs.Stock.{one, end_stock}
use Rattle.vx_machine_ids.specs.Balance.{active_at, Owned, Exact}
use Rattle.vx_machine_ids.proofs.CallLaws.{one_same, one_other}

pub only_owned : (e : Eof) → Owned (only e) (end_stock e)
only_owned e = record {
  within = λ q. ⊎_elim
      (λ i. omega (arith, one_same q (eof_path e) i, here q i))
      (λ n. omega (arith, one_other q (eof_path e) n))
      (one_path q (eof_path e));
  opened = λ q h. ⊎_elim
      (λ i. ap (map.get (only e)) i ∙ get-inserted map.empty (eof_path e) true)
      (λ n. absurd (omega (arith, h, one_other q (eof_path e) n)))
      (one_path q (eof_path e));
}
  where
    here : (q : List ℕ) → q ≡ eof_path e → active_at (only e) q ≡ 1
    here q i = ap (λ o. one (is_some o)) (ap (map.get (only e)) i ∙ get-inserted map.empty (eof_path e) true)

-- and nothing else is active
pub only_held : (e : Eof) → Exact (only e) (end_stock e)
only_held e q = ⊎_elim
    (λ i. omega (arith, one_same q (eof_path e) i, (only_owned e).within q, at_most (map.contains_key (only e) q)))
    (λ n. omega (arith, one_other q (eof_path e) n, elsewhere n))
    (one_path q (eof_path e))
  where
    at_most : (b : Bool) → one b ≤ 1
    at_most true = omega arith
    at_most false = omega arith

    elsewhere : q ≢ eof_path e → active_at (only e) q ≡ 0
    elsewhere n = ap (λ o. one (is_some o)) (get-insert_other map.empty (eof_path e) true q n ∙ map.get-empty path_cmp q)
