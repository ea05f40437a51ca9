-- Which construct is open, from the kind of its frame.
use Rattle.std.proofs.Common.{◌≡◌, ℕ, List, subst}
use Rattle.walrus_ir.specs.declared.control.BlockKind.{BlockKind}
use Rattle.walrus_ir.specs.declared.control.BlockKind.TheVariants as kind
use Rattle.wasm_body.specs.SourceTree.{Sequence, Wrapper, OfBlock, OfLoop, OfTryTable}
use Rattle.wasm_body.specs.Naming.{Occurrence}
use Rattle.wasm_body.specs.Parsing.Progress.{OpenConstruct, InWrapper, InThen, InElse, InTry, InCatch, InCatchAll, ClosedClause}
use Rattle.walrus_context.specs.OpenConstructs.{kind_in, wrapper_kind}

abbrev IsOfWrapper : BlockKind → Type 0
IsOfWrapper kind.Block = Unit {0}
IsOfWrapper kind.Loop = Unit {0}
IsOfWrapper kind.TryTable = Unit {0}
IsOfWrapper _ = ⊥

of_wrapper : (w : Wrapper) → IsOfWrapper (wrapper_kind w)
of_wrapper OfBlock = tt
of_wrapper OfLoop = tt
of_wrapper (OfTryTable cs) = tt

-- whether a clause of a legacy `try` is allowed after the frame
abbrev pub MayHaveClause : BlockKind → Type 0
MayHaveClause kind.Try = Unit {0}
MayHaveClause kind.Catch = Unit {0}
MayHaveClause _ = ⊥

no_clause_after_wrapper : (w : Wrapper) → MayHaveClause (wrapper_kind w) → ⊥
no_clause_after_wrapper OfBlock m = m
no_clause_after_wrapper OfLoop m = m
no_clause_after_wrapper (OfTryTable cs) m = m

module _ (P : OpenConstruct Occurrence → Type 0) where
  pub by_if : ((a : Occurrence) → P (InThen a)) → (p : OpenConstruct Occurrence) → kind_in p ≡ kind.If → P p
  by_if go (InThen a) e = go a
  by_if go (InWrapper a w) e = absurd (subst IsOfWrapper e (of_wrapper w))
  by_if go (InElse a b l) e = absurd cc
  by_if go (InTry a) e = absurd cc
  by_if go (InCatch a b cs i t) e = absurd cc
  by_if go (InCatchAll a b cs i) e = absurd cc

  pub by_else : ((a : Occurrence) (b : Sequence Occurrence) (l : Occurrence) → P (InElse a b l)) → (p : OpenConstruct Occurrence) → kind_in p ≡ kind.Else → P p
  by_else go (InElse a b l) e = go a b l
  by_else go (InWrapper a w) e = absurd (subst IsOfWrapper e (of_wrapper w))
  by_else go (InThen a) e = absurd cc
  by_else go (InTry a) e = absurd cc
  by_else go (InCatch a b cs i t) e = absurd cc
  by_else go (InCatchAll a b cs i) e = absurd cc

  pub by_try : ((a : Occurrence) → P (InTry a)) → (p : OpenConstruct Occurrence) → kind_in p ≡ kind.Try → P p
  by_try go (InTry a) e = go a
  by_try go (InWrapper a w) e = absurd (subst IsOfWrapper e (of_wrapper w))
  by_try go (InThen a) e = absurd cc
  by_try go (InElse a b l) e = absurd cc
  by_try go (InCatch a b cs i t) e = absurd cc
  by_try go (InCatchAll a b cs i) e = absurd cc

  pub by_clause : ((a : Occurrence) → P (InTry a)) → ((a : Occurrence) (b : Sequence Occurrence) (cs : List (ClosedClause Occurrence)) (i : Occurrence) (t : ℕ) → P (InCatch a b cs i t)) →
      (p : OpenConstruct Occurrence) → MayHaveClause (kind_in p) → P p
  by_clause go more (InTry a) m = go a
  by_clause go more (InCatch a b cs i t) m = more a b cs i t
  by_clause go more (InWrapper a w) m = absurd (no_clause_after_wrapper w m)
  by_clause go more (InThen a) m = absurd m
  by_clause go more (InElse a b l) m = absurd m
  by_clause go more (InCatchAll a b cs i) m = absurd m
