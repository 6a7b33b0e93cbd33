-- `rows::handler2::InSection::number` meets its contract. Assumes nothing.
use Rattle.std.proofs.Common.{◌≡◌, ◌+◌, ◌≤◌, ◌<◌, length, refl, arith}
use Rattle.rows.proofs.Short.{byte_in, one, two, three}
use Rattle.rows.proofs.handler2.InSectionNumbers.number.Goals as goal

pub returns-then-low-lt128 : goal.returns-then-low-lt128
returns-then-low-lt128 c =
    let s = c.args.self.now in
    let inside : s.last + 1 ≤ length s.section.now = omega (arith, s.inside) in
    let held : c.args.pos < s.last + 1 = omega (arith, c.if-last-pos.false) in
    one _ _ _ _ _ (byte_in _ s.base _ inside c.args.pos _ _ held refl c.from-low.ensures) c.if-low-lt128.true (omega arith)

pub returns-then-middle-lt128 : goal.returns-then-middle-lt128
returns-then-middle-lt128 c =
    let s = c.args.self.now in
    let pos = c.args.pos in
    let inside : s.last + 1 ≤ length s.section.now = omega (arith, s.inside) in
    let held : pos + 1 < s.last + 1 = omega (arith, c.if-last-pos.false) in
    let second : s.base + pos + 1 ≡ s.base + (pos + 1) = omega arith in
    two _ _ _ _ _ (byte_in _ s.base _ inside pos _ _ (omega (arith, held)) refl c.from-low.ensures) c.if-low-lt128.false
    (omega (arith, c.from-low.ensures)) _ (byte_in _ s.base _ inside (pos + 1) _ _ held second c.from-middle.ensures)
    c.if-middle-lt128.true (omega arith)

pub returns-then-high-lt128 : goal.returns-then-high-lt128
returns-then-high-lt128 c =
    let s = c.args.self.now in
    let pos = c.args.pos in
    let inside : s.last + 1 ≤ length s.section.now = omega (arith, s.inside) in
    let held : pos + 1 + 1 < s.last + 1 = omega (arith, c.if-last-third.false) in
    let second : s.base + pos + 1 ≡ s.base + (pos + 1) = omega arith in
    let third : s.base + pos + 1 + 1 ≡ s.base + (pos + 1 + 1) = omega arith in
    three _ _ _ _ _ (byte_in _ s.base _ inside pos _ _ (omega (arith, held)) refl c.from-low.ensures) c.if-low-lt128.false
    (omega (arith, c.from-low.ensures)) _ (byte_in _ s.base _ inside (pos + 1) _ _ (omega (arith, held)) second c.from-middle.ensures)
    c.if-middle-lt128.false (omega (arith, c.from-middle.ensures)) _
    (byte_in _ s.base _ inside (pos + 1 + 1) _ _ held third c.from-high.ensures) c.if-high-lt128.true (omega arith)
