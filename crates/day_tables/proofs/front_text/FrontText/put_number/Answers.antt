-- Answers of `FrontText::put_number` (src/front_text.rt): what the prover left open; rt looks here.
use Rattle.std.proofs.Common.{◌-◌, set, decimal, drop, length, ap, arith, rules, length-append, length-drop, length-set}
use Rattle.std.proofs.lemmas.Fmt.{length-decimal-le}
use Rattle.day_tables.proofs.FrontTextLaws.{all-bytes}
use Rattle.day_tables.proofs.front_text.FrontText.put_number.Goals as goal

pub write_digits-self-inside-requires : goal.write_digits-self-inside-requires
write_digits-self-inside-requires c =
    let all =
    all-bytes c.self.inside.bytes c.args.self.now c.self.inside.start c.self.view_is (omega (arith, c.self.told)) in (
      omega (
        arith,
        all,
        c.self.told,
        length-decimal-le 20 c.args.number (omega arith) (omega arith)
            c.ranges.number.fits,
      ),
      search rules,
    )

pub returns-clause-longer : goal.returns-clause-longer
returns-clause-longer c =
    let all =
    all-bytes c.self.inside.bytes c.args.self.now c.self.inside.start c.self.view_is (omega (arith, c.self.told)) in
    let digits = length-decimal-le 20 c.args.number (omega arith) (omega arith) c.ranges.number.fits in
    let end = c.self.inside.start - 1 in
    let marked = set c.self.inside.bytes end 44 in
    omega (
      arith,
      all,
      c.self.told,
      digits,
      ap length c.write_digits-self-inside.ensures.written,
      length-append (decimal c.args.number) (drop end marked),
      length-drop end marked,
      length-set c.self.inside.bytes end 44,
    )
