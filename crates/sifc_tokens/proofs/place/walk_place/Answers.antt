use Rattle.std.proofs.Common.{◌≡◌, ◌<◌, ◌+◌, ◌-◌, ◌∙◌, ap, sym, arith, length, get_or, take, drop, length-take, length-drop}
use Rattle.std.proofs.lemmas.List.{get_or-take, get_or-drop}
use Rattle.sifc_tokens.specs.declared.place.Place.{Place}
use Rattle.sifc_tokens.specs.Place.{walked_to, next_place}
use Rattle.sifc_tokens.proofs.PlaceLaws.{walked_more, walked_line, walked-pos}
use Rattle.sifc_tokens.proofs.place.walk_place.Goals as goal

pub next_place-at-requires : goal.next_place-at-requires
next_place-at-requires c =
    let i = c.args.from + c.loop-b.b-index in
    let h : i < length c.args.s.now = omega (arith, length-take (c.args.to - c.args.from) (drop c.args.from c.args.s.now), length-drop c.args.from c.args.s.now, c.requires.1) in
    let l = walked_line c.args.s.now i (omega arith) in
    let p = walked-pos c.args.s.now i (omega arith) in
    let el = ap (λ (x : Place). x.line) c.loop-b.invariant in
    let ep = ap (λ (x : Place). x.pos) c.loop-b.invariant in
    (omega arith, omega arith)

pub loop-b-preserved : goal.loop-b-preserved
loop-b-preserved c =
    let i = c.args.from + c.loop-b.b-index in
    let h : i < length c.args.s.now = omega (arith, length-take (c.args.to - c.args.from) (drop c.args.from c.args.s.now), length-drop c.args.from c.args.s.now, c.requires.1) in
    let b : get_or (take (c.args.to - c.args.from) (drop c.args.from c.args.s.now)) c.loop-b.b-index 0 ≡ get_or c.args.s.now i 0 = get_or-take (c.args.to - c.args.from) (drop c.args.from c.args.s.now) c.loop-b.b-index 0 (omega (arith, length-take (c.args.to - c.args.from) (drop c.args.from c.args.s.now))) ∙ get_or-drop c.args.from c.args.s.now c.loop-b.b-index 0 in
    let n : i + 1 ≡ c.args.from + (c.loop-b.b-index + 1) = omega arith in
    c.next_place-at.ensures ∙ ap (λ (x : Place). next_place x (get_or (take (c.args.to - c.args.from) (drop c.args.from c.args.s.now)) c.loop-b.b-index 0)) c.loop-b.invariant
    ∙ ap (next_place (walked_to c.args.s.now i)) b ∙ sym (walked_more c.args.s.now i h) ∙ ap (walked_to c.args.s.now) n

pub returns : goal.returns
returns c =
    let e : c.args.from + c.loop-b.b-index ≡ c.args.to = omega (arith, length-take (c.args.to - c.args.from) (drop c.args.from c.args.s.now), length-drop c.args.from c.args.s.now, c.requires.1) in
    c.loop-b.invariant ∙ ap (walked_to c.args.s.now) e
