use Rattle.std.proofs.Common.{Bool, inl, inr, ap, sym, subst, ◌∙◌}
use Rattle.wasm_ops.specs.Position.{Position}
use Rattle.wasm_body.specs.declared.error.ParseFailure.{ParseFailure}
use Rattle.wasm_body.specs.Naming.{Environment}
use Rattle.walrus_parser.specs.BodySources.{source_environment}
use Rattle.walrus_flat.specs.Checked.{env_of_checker}
use Rattle.walrus_flat.specs.CheckedBody.{setting_at, ChecksOperators}
use Rattle.walrus_flat.specs.RewrittenFlat.{is_none}
use Rattle.walrus_flat.proofs.CheckedWhole.{checks_all, entry_fault}
use Rattle.walrus_flat.proofs.flat_check.check.Goals as goal

pub returns-in-Err : goal.returns-in-Err
returns-in-Err g c =
    let s = c.args.source.now in
    let env = source_environment s in
    inr (λ locations has.
    entry_fault (setting_at env s.start g.V.OpCheck.check (g.V.OpCheck.state c.args.validator) locations) s.ops.now c.law_bytes.ensures c.in-Err.error c.failure.result (sym c.in-Err.ensures)
    c.failure.ensures)

pub returns-in-Err-begin_check : goal.returns-in-Err-begin_check
returns-in-Err-begin_check g c = inl (ap (λ (f : ParseFailure). f.error) c.failure-in-Err-begin_check.ensures ∙ c.in-Err-begin_check.ensures.err)

pub returns : goal.returns
returns g c =
    let s = c.args.source.now in
    let env = source_environment s in
    let check = g.V.OpCheck.check in
    let v0 = g.V.OpCheck.state c.args.validator in
    let old = c.in-Ok-begin_check.checker in
    let new = c.check_operators-result.new.checker in
    let has_limit = is_none s.on_instr_pos in
    let r = c.check_operators-result.result in
    let checks : ChecksOperators (setting_at env s.start check v0) has_limit s.ops.now old new r =
    subst (λ (e : Environment). ChecksOperators (setting_at e s.start check v0) has_limit s.ops.now old new r) c.in-Ok-begin_check.ensures.env
    (subst (λ (b : Bool). ChecksOperators (setting_at (env_of_checker old) s.start check v0) b s.ops.now old new r) (c.new-limit.ensures ∙ c.has_limit.ensures)
    (subst (λ (p : Position). ChecksOperators (setting_at (env_of_checker old) p.place check v0) c.new-limit.result.has_limit p.rest old new r) c.new-reader.ensures c.check_operators-result.ensures)) in
    checks_all (setting_at env s.start check v0) has_limit s.ops.now c.in-Ok.entry (λ l. sym c.in-Ok.ensures) c.law_bytes.ensures old new c.in-Ok-begin_check.ensures.none r checks
