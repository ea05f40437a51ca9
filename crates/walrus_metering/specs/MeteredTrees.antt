-- The tree of a function that charges what it executes: the normal form of a metered body (`metered_body` of `wasm_insertion`), with the
-- operators of a charge in the place of each added one.
use Rattle.std.specs.Prelude.{ℕ, List, [], ◌∷◌, ◌++◌, map, pos}
use Rattle.wasm_operators.specs.declared.types.Opcode.TheVariants.{Byte}
use Rattle.wasm_operators.specs.declared.types.Space.TheVariants.{Funcs, Globals}
use Rattle.wasm_operators.specs.Operations.{index, i64, operation}
use Rattle.walrus_ir.specs.declared.seq.InstrSeq.{InstrSeq}
use Rattle.walrus_ir.specs.Locations.{default_location}
use Rattle.wasm_body.specs.Flat.{Named}
use Rattle.wasm_body.specs.Naming.{NamedOperation}
use Rattle.wasm_body.specs.NormalForm.{Typing, normal_form}
use Rattle.wasm_body.specs.SourceTree.{Sequence, Empty, Single, Wrapped, IfThen, IfElse, TryCatch, TryDelegate, Clauses, Ended, Catches, CatchesAll, Body, map_body}
use Rattle.wasm_body.specs.TextLaws.{IsNamedBody}
use Rattle.wasm_body.specs.Translation.{at_location}
use Rattle.wasm_body.specs.TreeOfFunction.{HasTree}
use Rattle.wasm_insertion.specs.Insertion.{Origin, Own, Added, without_origin, InsertedBody, metered_body}
use Rattle.walrus_insertion.specs.BegunBodies.{with_added}
use Rattle.walrus_metering.specs.declared.costs.Costs.{Costs}
use Rattle.walrus_metering.specs.declared.charge.Charge.{Charge}
use Rattle.walrus_metering.specs.declared.charge.Charge.TheVariants as charge
use Rattle.walrus_metering.specs.OperatorCosts.{operator_cost}
use Rattle.walrus_metering.specs.MeteredInstructions.{charged_for, metered_sequence}

-- ---- operators that prepare a charge

-- what prepares an operator: a charge of n has these operators, and one of the source has none
abbrev pub prepares : {A P : Type 0} → (ℕ → List P) → Origin A ℕ → List P
prepares operators (Own a) = []
prepares operators (Added n) = operators n

-- A sequence that charges, with the operators that prepare a charge before each one that charges. Here these are the sequence's own, and
-- those that prepare are added.
module _ {A P : Type 0} (operators : ℕ → List P) where
  abbrev mutual
    pub prepared : Sequence (Origin A ℕ) → Sequence (Origin (Origin A ℕ) P)
    prepared Empty = Empty
    prepared (Single a action r) = with_added (prepares operators a) (Single (Own a) action (prepared r))
    prepared (Wrapped a w b e r) = Wrapped (Own a) w (prepared b) (Own e) (prepared r)
    prepared (IfThen a b e r) = IfThen (Own a) (prepared b) (Own e) (prepared r)
    prepared (IfElse a b l c e r) = IfElse (Own a) (prepared b) (Own l) (prepared c) (Own e) (prepared r)
    prepared (TryCatch a b cs r) = TryCatch (Own a) (prepared b) (prepared_clauses cs) (prepared r)
    prepared (TryDelegate a b e n r) = TryDelegate (Own a) (prepared b) (Own e) n (prepared r)

    pub prepared_clauses : Clauses (Origin A ℕ) → Clauses (Origin (Origin A ℕ) P)
    prepared_clauses (Ended e) = Ended (Own e)
    prepared_clauses (Catches a t b cs) = Catches (Own a) t (prepared b) (prepared_clauses cs)
    prepared_clauses (CatchesAll a b e) = CatchesAll (Own a) (prepared b) (Own e)

  abbrev pub prepared_body : Body (Origin A ℕ) → Body (Origin (Origin A ℕ) P)
  prepared_body b = record { sequence = prepared b.sequence; close = Own b.close }

-- What is shown for an operator of such a body: it is the source's own, or it is added, as one that charges is; it's this operator then.
abbrev pub charge_shown : {A P : Type 0} → (charges : P) → Origin (Origin A ℕ) P → Origin A P
charge_shown charges (Own (Own a)) = Own a
charge_shown charges (Own (Added n)) = Added charges
charge_shown charges (Added p) = Added p

-- ---- the operators of a charge

-- an operator that comes from no place of the source
abbrev pub nowhere : NamedOperation → Named
nowhere o = at_location o default_location

abbrev pub const_of : ℕ → Named
const_of n = nowhere (operation (Byte 0x42) (i64 (pos n) ∷ []))  -- i64.const

-- `i64.const n`; or `global.get`, `i64.const n`, `i64.add`
abbrev pub preparing_operators : Charge → ℕ → List Named
preparing_operators (charge.Call func) n = const_of n ∷ []
preparing_operators (charge.Add global) n =
    nowhere (operation (Byte 0x23) (index Globals global ∷ [])) ∷ const_of n ∷ nowhere (operation (Byte 0x7c) []) ∷ []

-- and then `call`; or `global.set`
abbrev pub charging_operator : Charge → Named
charging_operator (charge.Call func) = nowhere (operation (Byte 0x10) (index Funcs func ∷ []))
charging_operator (charge.Add global) = nowhere (operation (Byte 0x24) (index Globals global ∷ []))

abbrev pub charge_operators : Charge → ℕ → List Named
charge_operators c n = preparing_operators c n ++ charging_operator c ∷ []

-- those for a cost of n
abbrev pub prepared_for : Charge → ℕ → List Named
prepared_for c n = preparing_operators c (charged_for n)

abbrev pub operators_for : Charge → ℕ → List Named
operators_for c n = charge_operators c (charged_for n)

-- what a named operator costs, by its opcode
abbrev pub named_cost : Costs → Named → ℕ
named_cost costs x = operator_cost costs x.op.opcode

-- the metered body, with the operators of a charge in the place of each added one
abbrev pub charged_body : Costs → Charge → Body Named → Body (Origin Named Named)
charged_body costs c b = map_body (charge_shown (charging_operator c)) (prepared_body (prepared_for c) (metered_body (named_cost costs) b))

-- ---- the law

-- From a sequence on there is the tree of this body: its normal form. It is an insertion into the source.
pub record HasMeteredTree (costs : Costs) (charge : Charge) (sequences : List InstrSeq) (start : ℕ) (m : Typing) (b : Body Named) : Type 0 where
  pub inserted : InsertedBody b (charged_body costs charge b)
  pub has_tree : HasTree sequences start (normal_form m (map_body without_origin (charged_body costs charge b)))

-- Where the tree of a function was the normal form of a body, that of the metered function is the normal form of the metered body.
abbrev pub MeteredTrees : Type 0
MeteredTrees =
    (costs : Costs) (charge : Charge) (old : List InstrSeq) (start : ℕ) (m : Typing) (xs : List Named) (b : Body Named) → IsNamedBody xs b →
    HasTree old start (normal_form m b) → HasMeteredTree costs charge (map (metered_sequence costs charge) old) start m b
