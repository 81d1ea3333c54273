use Rattle.std.specs.Prelude.{Some}
use Rattle.std.proofs.Common.{rules}
use Rattle.sifc_def.specs.Stmt.{param}
use Rattle.sifc_declare.proofs.Ends.{few-nodes, any-seen, seen-any}
use Rattle.sifc_declare.proofs.ident.param_list.Goals as goal

pub param_list-requires : goal.param_list-requires
param_list-requires c =
    let m = c.requires in
    record {
      sight = Some (m.script, m.symbols);
      ready = m.ready;
      callable = λ q r. record { script = m.script; symbols = m.symbols; ready = r };
      item = λ x. param x;
      reads = record { does = λ p q r z x. any-seen (Some (m.script, m.symbols)) x.0; ahead = λ p q z x. x.1.0 };
    }

pub returns : goal.returns
returns c =
    let e = c.param_list.ensures in
    let m = c.requires in
    let v = Some (m.script, m.symbols) in (
      seen-any c.args.p.now c.param_list.new.p m (e.alone (search rules))
          (λ v r. e.does v (λ x. param x) (record { does = λ p q r z x. any-seen v x.0; ahead = λ p q z x. x.1.0 }) r),
      few-nodes c.param_list.new.p.nodes c.param_list.result e.few
          (e.nodes v (λ x. param x) (record { does = λ p q r z x. any-seen v x.0; ahead = λ p q z x. x.1.0 }) (record { nodes = λ p q z x. x.1.1 }) m.ready),
    )
