-- Runs of locals, as the list of their types.
use Rattle.std.specs.Prelude.{◌≡◌, ◌≤◌, ◌-◌, ℕ, List, [], ◌∷◌, ◌++◌, replicate}
use Rattle.wasm_types.specs.declared.val_type.ValType.{ValType}
use Rattle.wasm_locals.specs.declared.run.LocalRun.{LocalRun}

-- the types of the locals of these runs, if this number of locals come before them
abbrev pub types_of_runs : ℕ → List LocalRun → List (ValType ℕ)
types_of_runs before [] = []
types_of_runs before (r ∷ rs) = replicate (r.end - before) r.ty ++ types_of_runs r.end rs

-- the runs come one after the other, from the local with the number `before` on up to the one with the number `count`
abbrev pub RunsLeadTo : (before : ℕ) → List LocalRun → (count : ℕ) → Type 0
RunsLeadTo before [] count = before ≡ count
RunsLeadTo before (r ∷ rs) count = (before ≤ r.end) × RunsLeadTo r.end rs count

abbrev pub end_of_runs : LocalRun → ℕ
end_of_runs r = r.end
