use Rattle.std.proofs.Common.{◌≡◌, ℕ, ◌-◌, length, replicate, refl, ap, ◌∙◌, arith}
use Rattle.std.proofs.lemmas.List.{length-replicate}
use Rattle.sifc_tokens.specs.Tokens.{padded}
use Rattle.sifc_deepest.proofs.fill.Goals as goal

pub returns : goal.returns
unfolding padded
returns c =
    let s = c.split_at_mut-front.ensures in
    let rest : length c.split_at_mut-front.result.1.now ≡ length c.args.script.now - c.args.n = omega (arith, s.front_len, s.back_len) in
    let a : c.fill.new.self ≡ replicate c.args.n 40 = c.fill.ensures.after (λ y e. e) ∙ ap (λ k. replicate k 40) s.front_len in
    let b : c.fill-2.new.self ≡ replicate (length c.args.script.now - c.args.n) 0 = c.fill-2.ensures.after (λ y e. e) ∙ ap (λ k. replicate k 0) rest in
    rw (a, b, length-replicate {A = ℕ} c.args.n 40) refl
