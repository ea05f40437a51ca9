use Rattle.std.proofs.Common.{◌∙◌, sym, refl}
use Rattle.dwarf.proofs.IndexCodes.{codes_none, codes_repeat, codes_more, codes_end}
use Rattle.dwarf.proofs.index_abbreviations.check_codes.Goals as goal

pub codes-init : goal.codes-init
codes-init c = codes_none c.args.abbreviations.now c.requires

pub returns-then-repeats_number : goal.returns-then-repeats_number
returns-then-repeats_number c =
    let repeated = codes_repeat c.args.abbreviations.now c.codes.abbreviation-index c.codes.last c.codes.invariant _ c.codes-test.true (sym c.repeats_number.ensures ∙ c.if-repeats_number.true) in
    rw repeated refl

pub codes-preserved : goal.codes-preserved
codes-preserved c =
    codes_more c.args.abbreviations.now c.codes.abbreviation-index c.codes.last c.codes.invariant _ c.codes-test.true (sym c.repeats_number.ensures ∙ c.if-repeats_number.false)

pub returns : goal.returns
returns c =
    let none = codes_end c.args.abbreviations.now c.codes.abbreviation-index c.codes.last c.codes.invariant c.codes-test.false in
    rw none refl
