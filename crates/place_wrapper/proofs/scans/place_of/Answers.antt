use Rattle.std.proofs.Common.{◌≡◌, ◌+◌, ◌-◌, ◌/◌, ◌≤◌, ◌<◌, ℕ, Some, length, slice_get, subst, arith}
use Rattle.place_wrapper.proofs.Entries.{Among, read_there, among_all, last_within, among_later, among_earlier, among_one}
use Rattle.place_wrapper.proofs.scans.place_of.Goals as goal

pub returns-then-index-number : goal.returns-then-index-number
returns-then-index-number c =
    let es = c.args.scans.now.items in
    let now = c.index.result.now in
    let last = c.len-last.result - 1 in
    let some = last_within es c.args.number c.requires.live in
    let within : last < length es = omega arith in
    let there = read_there es last now now within c.index.ensures in
    (now.1, subst (λ (k : ℕ). slice_get es last ≡ Some (k, now.1)) c.if-index-number.true there)

pub loop-first-init : goal.loop-first-init
loop-first-init c =
    let es = c.args.scans.now.items in
    let number = c.args.number in
    let some = last_within es number c.requires.live in
    let same : length es ≡ c.len-last.result = omega arith in
    record {
      within = omega arith;
      among = subst (λ (n : ℕ). Among es number 0 (n - 1)) same (among_all es number c.requires.live);
    }

pub loop-first-preserved-then-index-number-2 : goal.loop-first-preserved-then-index-number-2
loop-first-preserved-then-index-number-2 c =
    let es = c.args.scans.now.items in
    let now = c.index-in-loop-first.result.now in
    let at = c.loop-first.first + (c.loop-first.end - c.loop-first.first) / 2 in
    let test = c.loop-first-test.true in
    let end = c.loop-first.invariant.within in
    let within : at < length es = omega arith in
    let there = read_there es at now now within c.index-in-loop-first.ensures in
    let rising = c.requires.rising in
    record {
      within = end;
      among = among_later rising.0 c.args.number _ _ at es now rising.1 there c.if-index-number-2.true c.loop-first.invariant.among;
    }

pub loop-first-preserved : goal.loop-first-preserved
loop-first-preserved c =
    let es = c.args.scans.now.items in
    let now = c.index-in-loop-first.result.now in
    let at = c.loop-first.first + (c.loop-first.end - c.loop-first.first) / 2 in
    let test = c.loop-first-test.true in
    let end = c.loop-first.invariant.within in
    let within : at < length es = omega arith in
    let there = read_there es at now now within c.index-in-loop-first.ensures in
    let rising = c.requires.rising in
    let least : c.args.number ≤ now.0 = let no = c.if-index-number-2.false in omega arith in
    record {
      within = within;
      among = among_earlier rising.0 c.args.number _ _ at es now rising.1 there least c.loop-first.invariant.among;
    }

pub returns : goal.returns
returns c =
    let one : c.loop-first.end ≤ c.loop-first.first = let no = c.loop-first-test.false in omega arith in
    among_one c.args.scans.now.items c.args.number _ _ one c.loop-first.invariant.among
