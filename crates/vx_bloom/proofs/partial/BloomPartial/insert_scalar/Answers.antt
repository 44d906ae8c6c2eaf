use Rattle.std.proofs.Common.{◌≡◌, true, ap, sym, ◌∙◌, rules}
use Rattle.std.proofs.lemmas.List.{append-nil}
use Rattle.vx_model.specs.TyView.{ty}
use Rattle.vx_model.specs.TreeView.{val}
use Rattle.vx_bloom_spec.specs.Filter.{filter_of}
use Rattle.vx_bloom_spec.specs.Values.{is_unsupported}
use Rattle.vx_bloom.proofs.ValueLaws.{unsupported_none}
use Rattle.vx_bloom.proofs.partial.BloomPartial.insert_scalar.Goals as goal

pub returns-then-is_unsupported-clause-filter : goal.returns-then-is_unsupported-clause-filter
returns-then-is_unsupported-clause-filter g c = λ blocks hashes e.
    let refused : is_unsupported (ty c.args.dtype.now) (val c.args.value.now) ≡ true = search rules in
    rw (unsupported_none g.H.ByteHash.hash (ty c.args.dtype.now) (val c.args.value.now) refused)
    (e ∙ ap (filter_of blocks) (sym (append-nil hashes)))
