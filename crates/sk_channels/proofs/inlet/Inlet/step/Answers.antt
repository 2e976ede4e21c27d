-- What came is dropped, is asked for, or has a fault.
use Rattle.sk_channels.proofs.Names.{◌+◌, [], ◌∷◌, ◌++◌, length, take, Err, sym, ◌∙◌, ap, subst, arith, Ask, Asked}
use Rattle.sk_channels.proofs.Names.{Inlet, HasHeard, ReadsOn}
use Rattle.sk_channels.proofs.Heard.{opened, dropped_on, found_on, closed_on, none_posed, read_idle, still_posed}
use Rattle.sk_channels.proofs.inlet.Inlet.step.Goals as goal

pub returns-then-self : goal.returns-then-self
returns-then-self c limits asked stream has = (
  omega arith,
  (λ some none. some),
  dropped_on limits asked stream c.args.bytes.now c.args.self.now c.if-self.true has,
)

pub returns-then-is_posed : goal.returns-then-is_posed
returns-then-is_posed c limits asked stream has =
    still_posed limits asked stream c.args.bytes.now c.args.self.now c.is_posed.result c.is_posed.ensures
    c.if-is_posed.true has

pub returns-in-Ok : goal.returns-in-Ok
returns-in-Ok c limits asked stream has =
    let was = opened limits asked stream c.args.self.now c.if-self.false has in
    let none = none_posed c.args.self.now.posed c.is_posed.result c.is_posed.ensures c.if-is_posed.false in
    let read = c.in-Ok.ensures limits was.told stream (read_idle limits asked stream c.args.self.now was none) in
    let came = stream ++ take c.in-Ok.taken.count c.args.bytes.now in (
      read.0,
      (λ some idle. read.1 some),
      found_on limits asked came was.told c.in-Ok.taken.found
          (record c.args.self.now { reader = c.take.new.self }) c.found.new.self c.found.result was.asks read.2 none
          c.if-self.false has.tickets c.found.ensures,
    )

pub returns-in-Err-Fault : goal.returns-in-Err-Fault
returns-in-Err-Fault c limits asked stream has =
    let was = opened limits asked stream c.args.self.now c.if-self.false has in
    let none = none_posed c.args.self.now.posed c.is_posed.result c.is_posed.ensures c.if-is_posed.false in
    let read =
    subst (λ e. ReadsOn limits was.told stream c.args.bytes.now (Err e) c.take.new.self) c.in-Err-Fault.field-0-is
    (c.in-Err-Fault.ensures limits was.told stream (read_idle limits asked stream c.args.self.now was none)) in
    let came = stream ++ take (length c.args.bytes.now) c.args.bytes.now in (
      omega arith,
      (λ some idle. some),
      (
        subst (λ (a : Ask). HasHeard limits (asked ++ a ∷ []) came c.give.new.self)
            (sym (ap (λ (r : Asked). r.ask) c.give.ensures.asked))
            (closed_on limits asked stream c.args.bytes.now read.1.0 c.in-Err-Fault.fault was.told c.args.self.now
            c.give.new.self was.asks read.1.1 read.1.2
            (ap (λ (n : Inlet). n.posed) c.give.ensures.next ∙ none)
            (ap (λ (n : Inlet). n.closed) c.give.ensures.next)
            (ap (λ (n : Inlet). n.next) c.give.ensures.next ∙ ap (λ n. n + 1) has.tickets)),
        ap (λ (r : Asked). r.ticket) c.give.ensures.asked ∙ has.tickets,
      ),
    )
