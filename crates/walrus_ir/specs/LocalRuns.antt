-- The contents of the table of a module's locals, as the list of their types.
use Rattle.std.specs.Prelude.{◌≡◌, ◌≤◌, ◌-◌, ℕ, List, [], ◌∷◌, ◌++◌, replicate}
use Rattle.wasm_types.specs.declared.val_type.ValType.{ValType}
use Rattle.walrus_ir.specs.declared.module_locals.LocalRun.{LocalRun}

-- the types of the locals of these runs, if this number of locals come before them
abbrev pub types_from : ℕ → List LocalRun → List (ValType ℕ)
types_from before [] = []
types_from before (r ∷ rs) = replicate (r.end - before) r.ty ++ types_from r.end rs

-- the runs come one after the other, from the local with the number `before` on up to the one with the number `count`
abbrev pub LeadTo : (before : ℕ) → List LocalRun → (count : ℕ) → Type 0
LeadTo before [] count = before ≡ count
LeadTo before (r ∷ rs) count = (before ≤ r.end) × LeadTo r.end rs count
