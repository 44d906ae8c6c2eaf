-- Scopes that know what a layout is made of, and layouts that metadata can spell.
use Rattle.std.specs.Prelude.{◌≡◌, ℕ, ◌<◌, ◌^◌, Bool, true, length}
use Rattle.vx_model.specs.Words.{all_by}
use Rattle.vx_layout_spec.specs.LayoutTree.{Spec, Kind, flat_kind, chunked_kind, struct_kind, list_kind, dict_kind, zoned_kind, LayoutData, LayoutList, layout, no_layouts, child}
use Rattle.vx_session.specs.declared.encoding.LayoutEncoding.TheVariants as kinds
use Rattle.vx_session.specs.Encodings.{all_encodings}
use Rattle.vx_session.specs.Ids.{is_listed}
use Rattle.vx_session.specs.Scope.{Context, Scope}
use Rattle.vx_layout_codec_spec.specs.Sound.{Knows}
use Rattle.vx_aggregate_spec.specs.Aggregate.{Aggregate, aggregate_id}
use Rattle.vx_plan.specs.PlanData.{Setting}

-- the aggregate that a spec names is known
abbrev pub is_known : Context → Spec → Bool
is_known c sp = is_listed sp.id c.aggregates

-- Of a node: its kind is registered under its id. The segments of a flat one name the encodings by the same places. The
-- aggregates of a zoned one are known, and their number fits its field, which has 32 bits. A write gives no other kind.
abbrev pub KnowsNode : Scope → Kind → Type 0
KnowsNode s (flat_kind encodings tree) = Knows s kinds.Flat × (encodings ≡ s.context.encodings)
KnowsNode s chunked_kind = Knows s kinds.Chunked
KnowsNode s struct_kind = Knows s kinds.Struct
KnowsNode s list_kind = Knows s kinds.List
KnowsNode s (dict_kind all) = Knows s kinds.Dict
KnowsNode s (zoned_kind zone_len specs) = Knows s kinds.Zoned × (length specs < 2 ^ 32) × (all_by (is_known s.context) specs ≡ true)
KnowsNode s k = Unit {0}

-- Of a session that registers all kinds and knows all aggregates, where segments name the setting's encodings.
pub record KnowsWrites (s : Scope) (st : Setting) : Type 0 where
  pub kinds : s.registered ≡ all_encodings
  pub encodings : st.encodings ≡ s.context.encodings
  pub aggregates : (a : Aggregate) → is_listed (aggregate_id a) s.context.aggregates ≡ true

-- each node of a layout, those of zone tables too
abbrev mutual
  pub KnowsLayout : Scope → LayoutData ℕ → Type 0
  KnowsLayout s (layout k t n names ls) = KnowsNode s k × KnowsAll s ls

  pub KnowsAll : Scope → LayoutList ℕ → Type 0
  KnowsAll s no_layouts = Unit {0}
  KnowsAll s (child l ls) = KnowsLayout s l × KnowsAll s ls
