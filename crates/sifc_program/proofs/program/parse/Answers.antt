use Rattle.std.specs.Prelude.{refl}
use Rattle.sifc_step.specs.Abs.{mem}
use Rattle.sifc_program.proofs.Programs.{parse-panics}
use Rattle.sifc_program.proofs.program.parse.Goals as goal

pub returns-then-words-eq-LEX_PANIC : goal.returns-then-words-eq-LEX_PANIC
returns-then-words-eq-LEX_PANIC c = parse-panics c.requires (mem c.args.symbols.now c.args.head.now c.args.load.now) c.if-words-eq-LEX_PANIC.true

pub program-requires : goal.program-requires
program-requires c = record {
  starts = c.requires;
  new = refl;
  calm = λ z. c.if-words-eq-LEX_PANIC.false z;
  holds = c.open.ensures c.args.script.now c.args.offs.now;
}
