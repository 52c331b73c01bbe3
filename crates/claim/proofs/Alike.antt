-- Gates that stand for one history are the same memory: `same_memory`, `reports_alike`, over specs/Alike.antt. Assumes nothing.
-- Here, and not in specs/, so that a wrong definition is refused by the first theorem that it breaks, and not by those that rest on it.
use Rattle.std.specs.Prelude.{ℕ, zero, suc, ◌*◌, ◌≤◌, ◌<◌, ◌≡◌, refl, true, List, [], ◌∷◌, length}
use Rattle.std.proofs.Common.{sym, ap, subst, ◌∙◌, arith}
use Rattle.std.proofs.lemmas.Bool.{false≢true}
use Rattle.rules.specs.Tests.{both}
use Rattle.rules.specs.Orders.{Rule}
use Rattle.rules.specs.Refusals.{unless_refused}
use Rattle.rules.specs.declared.kinds.Money.{Money}
use Rattle.rules.specs.declared.calls.Call.{Call}
use Rattle.rules.specs.declared.calls.Call.TheVariants.{Enrol, Attach, Detach, Regular, Raise, Withdraw, OwnQuota, Order, Fill, Cancel, Close}
use Rattle.history.specs.Past.{History}
use Rattle.history.specs.Runs.{after}
use Rattle.register.specs.Alike.{UnusedAlike, unused_own}
use Rattle.register.proofs.Alike.{register_alike}
use Rattle.register.specs.Layout.{group_count}
use Rattle.quota.specs.Asks.{groups_enrolled}
use Rattle.book.specs.Layout.{accepted_of, put_money, place_at, place_words}
use Rattle.book.specs.Known.{BookKnown}
use Rattle.book.specs.Laws.{accepted_of_put, place-words}
use Rattle.book.specs.Alike.{book_alike, places_alike}
use Rattle.orders.specs.Clear.{host_known}
use Rattle.orders.specs.Calls.{fill_refusal, fill_booked, fill_book, cancel_refusal, cancel_booked, cancel_book}
use Rattle.claim.specs.Step.{Memory, memory, step}
use Rattle.claim.specs.Demand.{run}
use Rattle.claim.specs.QuotaSim as quotas
use Rattle.claim.specs.Theorem.{Sim}
use Rattle.claim.proofs.Theorem.{run_sim}
use Rattle.claim.specs.Unused.{unused_kept}
use Rattle.words.specs.Each.{reach}
use Rattle.claim.specs.Alike.{SameUnused, is_report, all_reports, UnusedKept}

module _ (N : ℕ) (h : History) (m n : Memory) (s : Sim N h m) (t : Sim N h n) where
  b : BookKnown m.book m.places (groups_enrolled m.register)
  b = (host_known m.register m.book m.places s.host).book

  c : BookKnown n.book n.places (groups_enrolled n.register)
  c = (host_known n.register n.book n.places t.host).book

  pub same-book : m.book ≡ n.book
  same-book =
      book_alike m.book n.book b.book-length c.book-length
      (s.order.places ∙ sym t.order.places) (s.order.accepted ∙ sym t.order.accepted) (λ g l. s.order.money g ∙ sym (t.order.money g))

  pub same-places : SameUnused N h m n → m.places ≡ n.places
  same-places f =
      places_alike m.places n.places N (omega (arith, b.places-high, s.order.places))
      (b.places-length ∙ ap (λ (z : ℕ). place_words * z) s.order.places)
      (c.places-length ∙ ap (λ (z : ℕ). place_words * z) t.order.places)
      (λ k l q. reach (length h.orders) k (λ o. f k (omega arith) (omega arith)) (λ o. s.order.stands k l o ∙ sym (t.order.stands k l o)))

  pub same-register : UnusedAlike m.register n.register → m.register ≡ n.register
  same-register u =
      let v = m.register in
      let w = n.register in
      register_alike v w s.quota.sound t.quota.sound (quotas.group_counts h v s.quota ∙ sym (quotas.group_counts h w t.quota))
      (λ i l.
      let k : i < group_count m.register = omega (arith, quotas.group_counts h v s.quota, quotas.group_counts h w t.quota) in
      record {
        code = quotas.code_same h v s.quota i k ∙ sym (quotas.code_same h w t.quota i l);
        class = quotas.class_same h v s.quota i k ∙ sym (quotas.class_same h w t.quota i l);
        quota = quotas.quota_same h v s.quota i k ∙ sym (quotas.quota_same h w t.quota i l);
        figures = quotas.figures_same h v s.quota i k ∙ sym (quotas.figures_same h w t.quota i l);
      })
      (s.quota.units ∙ sym t.quota.units) (s.quota.ratios ∙ sym t.quota.ratios) u

  -- "two memories that stand for one history, with the same places above the last number given, are equal"
  pub same_memory : UnusedAlike m.register n.register → SameUnused N h m n → m ≡ n
  same_memory u f = equal (same-register u) same-book (same-places f)
    where
      equal : m.register ≡ n.register → m.book ≡ n.book → m.places ≡ n.places → memory m.register m.book m.places ≡ memory n.register n.book n.places
      equal x y z = rw (x, y, z)

accepted_kept : (r : ℕ) (bs : List ℕ) (g : ℕ) (money : Money) → accepted_of (unless_refused r (put_money bs g money) bs) ≡ accepted_of bs
accepted_kept zero bs g money = accepted_of_put bs g money
accepted_kept (suc r) bs g money = refl

report_kept : (rule : Rule) (m : Memory) (c : Call) → is_report c ≡ true → UnusedKept m (step rule m c).memory
unfolding step fill_book cancel_book
report_kept rule m (Enrol code class) e = absurd (false≢true e)
report_kept rule m (Attach unit group) e = absurd (false≢true e)
report_kept rule m (Detach unit) e = absurd (false≢true e)
report_kept rule m (Regular declarer group base quota) e = absurd (false≢true e)
report_kept rule m (Raise declarer group quota flag) e = absurd (false≢true e)
report_kept rule m (Withdraw declarer group) e = absurd (false≢true e)
report_kept rule m (OwnQuota group quota) e = absurd (false≢true e)
report_kept rule m (Order unit kind price quantity) e = absurd (false≢true e)
report_kept rule m (Fill order price quantity) e =
    let p = place_at m.places order in
    record {
      register = refl;
      accepted = accepted_kept (fill_refusal m.register m.book m.places order price quantity) m.book p.group (fill_booked m.book m.places order price quantity).money;
      words = unused_kept rule m (Fill order price quantity);
    }
report_kept rule m (Cancel order) e =
    let p = place_at m.places order in
    record {
      register = refl;
      accepted = accepted_kept (cancel_refusal m.register m.book m.places order) m.book p.group (cancel_booked m.book m.places order).money;
      words = unused_kept rule m (Cancel order);
    }
report_kept rule m Close e = absurd (false≢true e)

-- in every memory
pub reports_kept : (rule : Rule) (cs : List Call) (m : Memory) → all_reports cs ≡ true → UnusedKept m (run rule m cs)
unfolding run
reports_kept rule [] m e = record { register = refl; accepted = refl; words = λ i l. refl }
reports_kept rule (c ∷ cs) m e =
    let f = both (is_report c) (all_reports cs) e in
    let x = report_kept rule m c f.0 in
    let y = reports_kept rule cs (step rule m c).memory f.1 in
    record {
      register = y.register ∙ x.register;
      accepted = y.accepted ∙ x.accepted;
      words = λ i l. y.words i (omega (arith, x.accepted)) ∙ x.words i l;
    }

-- two lists of fills and cancels that lead from a gate to one history leave one memory
pub reports_alike : (N : ℕ) (rule : Rule) (h : History) (m : Memory) → Sim N h m → (cs ds : List Call) → all_reports cs ≡ true → all_reports ds ≡ true → after N rule h cs ≡ after N rule h ds → run rule m cs ≡ run rule m ds
reports_alike N rule h m s cs ds e f q =
    let x = reports_kept rule cs m e in
    let y = reports_kept rule ds m f in
    let a = run_sim N rule cs h m s in
    let b : Sim N (after N rule h cs) (run rule m ds) = rw q (run_sim N rule ds h m s) in
    same_memory N (after N rule h cs) (run rule m cs) (run rule m ds) a b
    (subst (λ (w : List ℕ). UnusedAlike (run rule m cs).register w) (x.register ∙ sym y.register) (unused_own (run rule m cs).register))
    (λ k l o. place-words (run rule m cs).places (run rule m ds).places k (λ i u v.
    let w : place_words * accepted_of m.book ≤ i = omega (arith, a.order.accepted, x.accepted) in
    x.words i w ∙ sym (y.words i w)))
