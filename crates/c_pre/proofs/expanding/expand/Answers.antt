use Rattle.std.proofs.Common.{ap, ◌∙◌}
use Rattle.std.proofs.lemmas.Result.{err_from_is_err_and}
use Rattle.c_pre.specs.Parts.{lines_in}
use Rattle.c_pre.specs.Kept.{progress}
use Rattle.c_pre.proofs.Outcome.{expanded-ok, expanded-err}
use Rattle.c_pre.proofs.expanding.expand.Goals as goal

pub returns-in_err-read_source : goal.returns-in_err-read_source
returns-in_err-read_source c =
    let p = err_from_is_err_and c.from_residual-in_err-read_source.result c.from_residual-in_err-read_source.ensures.1 in
    rw (p.1, p.2)
    (record {
      exact =
          expanded-err c.args.header.now c.args.header_name.now c.args.source.now (lines_in c.deref.result.now) (lines_in c.deref-2.result.now) (progress c.new-left.result) c.in_err-read_source.field-0.0 (λ u. progress c.read_source.new.self)
          (ap lines_in c.deref.ensures.value ∙ c.in_ok-header_lines.ensures.lines)
          (ap lines_in c.deref-2.ensures.value ∙ c.in_ok-source_lines.ensures.lines)
          c.new-left.ensures c.in_err-read_source.ensures;
    })

pub returns : goal.returns
returns c = record {
  exact =
      expanded-ok c.args.header.now c.args.header_name.now c.args.source.now (lines_in c.deref.result.now) (lines_in c.deref-2.result.now) (progress c.new-left.result) (progress c.read_source.new.self) c.in_ok-macros.macros
      (ap lines_in c.deref.ensures.value ∙ c.in_ok-header_lines.ensures.lines)
      (ap lines_in c.deref-2.ensures.value ∙ c.in_ok-source_lines.ensures.lines)
      c.new-left.ensures c.in_ok-read_source.ensures c.in_ok-macros.ensures;
}
