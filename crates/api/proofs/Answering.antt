-- From what the stages know to the answer to all bytes.
use Rattle.std.proofs.Common.{◌≡◌, ◌≢◌, ◌∙◌, ℕ, ◌-◌, ◌≤◌, ◌<◌, List, [], ◌∷◌, ◌++◌, length, take, drop, sym, ap, subst, refl, append-nil, append_assoc, length-append, length-drop, get_or, arith, rules, ◌⊎◌, inl, inr}
use Rattle.std.specs.Prelude.{Option, Some, None, Result, Ok, Err, option_map, IsErrAnd}
use Rattle.std.proofs.lemmas.Result.{err_from_is_err_and}
use Rattle.std.proofs.lemmas.List.{take-append-le, take_all}
use Rattle.ports.specs.declared.stop.Stop.{Stop}
use Rattle.ports.specs.declared.stop.Stop.TheVariants as stop
use Rattle.ports.specs.Stops.{Answers, Refuses}
use Rattle.ports.specs.Taken.{Gave, IsSpent}
use Rattle.httparse.specs.Grammar.{RequestHead, print_request, print_blank}
use Rattle.httparse.proofs.GrammarLemmas.{print_request-append}
use Rattle.httparse.specs.declared.spans.HeaderSpan.{HeaderSpan}
use Rattle.httparse.specs.declared.spans.RequestSpans.{RequestSpans}
use Rattle.routes.specs.declared.method.Method.{Method}
use Rattle.routes.specs.declared.method.Method.TheVariants as method
use Rattle.routes.specs.Methods.{method_text}
use Rattle.routes.specs.Asking.{Asks}
use Rattle.api.specs.declared.ask.Ask.{Ask}
use Rattle.api.specs.declared.ask.AskEnd.{AskEnd}
use Rattle.api.specs.declared.ask.AskEnd.TheVariants.{Failed, Closed, Bad}
use Rattle.api.specs.declared.bad.BadWhy.{BadWhy}
use Rattle.api.specs.declared.bad.BadWhy.TheVariants as why
use Rattle.api.specs.declared.plan.Head.{Head}
use Rattle.api.specs.declared.plan.Plan.{Plan}
use Rattle.api.specs.Requests.{Request, Says}
use Rattle.api.specs.Lengths.{lengths, body_length, body}
use Rattle.api.specs.Tests.{Passes, PassesBefore, Fails}
use Rattle.api.specs.Answers.{all_of, AskOf, IsRefused, Reads}
use Rattle.api.specs.Fields.{pairs}
use Rattle.api.specs.Stages.{IsFault, IsHead, IsWhole, IsShort, refusal}
use Rattle.api.specs.Plans.{said, IsSaid, EndsFailed, IsPlan, AsksBy, ReadsOn}
use Rattle.ports.proofs.callers.Taken.{gave_nothing, gave_more}
use Rattle.api.proofs.Heads.{rest_of, all_is, not_empty}
use Rattle.api.proofs.HeadEnds.{refuses, fault_ends}

-- all bytes are those that had come, and what was taken and is left behind them
all_on : (bytes more : List ℕ) (left : Option (List ℕ)) → all_of (bytes ++ more) left ≡ bytes ++ (more ++ rest_of left)
all_on bytes more left = all_is (bytes ++ more) left ∙ append_assoc bytes more (rest_of left)

all_some : (bytes more : List ℕ) (left : Option (List ℕ)) → bytes ≢ [] → all_of (bytes ++ more) left ≢ []
all_some bytes more left some e = not_empty bytes (more ++ rest_of left) some (sym (all_on bytes more left) ∙ e)

refused_by : (bytes : List ℕ) (r : Request) (w : BadWhy) (allow : Option (List ℕ)) → Says bytes r → Fails w r allow → IsRefused bytes w allow
refused_by bytes r why.Head allow s f = absurd f
refused_by bytes r why.HeadSize allow s f = absurd f
refused_by bytes r why.Coding allow s f = (r, s, f)
refused_by bytes r why.Length allow s f = (r, s, f)
refused_by bytes r why.Route allow s f = (r, s, f)
refused_by bytes r why.Method allow s f = (r, s, f)
refused_by bytes r why.Name allow s f = (r, s, f)
refused_by bytes r why.NoLength allow s f = (r, s, f)
refused_by bytes r why.BodySize allow s f = (r, s, f)
refused_by bytes r why.Short allow s f = (r, s, f)
refused_by bytes r why.Body allow s f = (r, s, f)

apart : (a b : ℕ) → (a < b) ⊎ (b < a) → a ≡ b → ⊥
apart a b (inl l) e = omega (arith, l, e)
apart a b (inr l) e = omega (arith, l, e)

-- a method is spelled in one way
one_method : (m n : Method) → method_text m ≡ method_text n → m ≡ n
one_method method.Get method.Get e = refl
one_method method.Get method.Put e = absurd (apart 71 80 (inl (omega arith)) (ap (λ t. get_or t 0 0) e))
one_method method.Get method.Post e = absurd (apart 71 80 (inl (omega arith)) (ap (λ t. get_or t 0 0) e))
one_method method.Put method.Get e = absurd (apart 80 71 (inr (omega arith)) (ap (λ t. get_or t 0 0) e))
one_method method.Put method.Put e = refl
one_method method.Put method.Post e = absurd (apart 85 79 (inr (omega arith)) (ap (λ t. get_or t 1 0) e))
one_method method.Post method.Get e = absurd (apart 80 71 (inr (omega arith)) (ap (λ t. get_or t 0 0) e))
one_method method.Post method.Put e = absurd (apart 79 85 (inl (omega arith)) (ap (λ t. get_or t 1 0) e))
one_method method.Post method.Post e = refl

module _ (bytes : List ℕ) (some : bytes ≢ []) (len : ℕ) where
  -- a head is refused
  pub head_answer : (old : Option (List ℕ)) (w : BadWhy) (r : Result Ask (Stop AskEnd)) → ((more : List ℕ) → IsRefused (bytes ++ more) w None)
      → r ≡ Err (refusal w) → ReadsOn bytes old old r
  head_answer old w r f e = subst (ReadsOn bytes old old) (sym e) (record {
    more = [];
    gave = gave_nothing old;
    answer = refuses (all_of (bytes ++ []) old) w (all_some bytes [] old some) (subst (λ b. IsRefused b w None) (sym (all_on bytes [] old)) (f ([] ++ rest_of old)));
  })

  module _ (head : Head) (is : IsSaid bytes len head) where
    failed : (more : List ℕ) (new : Option (List ℕ)) (end : Stop AskEnd) → EndsFailed head end → Refuses (AskOf (all_of (bytes ++ more) new)) end
    failed more new stop.NoMemory f = tt
    failed more new (stop.Why Failed) f = absurd f
    failed more new (stop.Why Closed) f = absurd f
    failed more new (stop.Why (Bad bad)) f =
        let left = more ++ rest_of new in
        let allow : Option (List ℕ) = option_map (λ m. m.now) bad.allow in
        record {
          some = all_some bytes more new some;
          status = f.0;
          refused = subst (λ b. IsRefused b bad.why allow) (sym (all_on bytes more new))
              (refused_by (bytes ++ left) (said head (drop len bytes ++ left)) bad.why allow (is.says left) (f.1 (drop len bytes ++ left)));
        }

    -- a test without the body fails
    pub plan_answer : (old : Option (List ℕ)) (end : Stop AskEnd) (r : Result Ask (Stop AskEnd)) → EndsFailed head end → IsErrAnd r (λ e. e ≡ end) → ReadsOn bytes old old r
    plan_answer old end r f by =
        let p = err_from_is_err_and r by in
        subst (ReadsOn bytes old old) (sym (p.1 ∙ ap Err p.2)) (record { more = []; gave = gave_nothing old; answer = failed [] old end f })

    module _ (plan : Plan) (plans : IsPlan head plan) where
      short : (old new : Option (List ℕ)) (end : Stop AskEnd) → IsShort old new (drop len bytes) plan.length end → ReadsOn bytes old new (Err end)
      short old new end s = record {
        more = s.more;
        gave = s.gave;
        answer = subst (Refuses (AskOf (all_of (bytes ++ s.more) new))) (sym s.is)
            (refuses (all_of (bytes ++ s.more) new) why.Short (all_some bytes s.more new some)
            (subst (λ b. IsRefused b why.Short None) (sym (all_on bytes s.more new)) (
              said head (drop len bytes ++ (s.more ++ rest_of new)),
              is.says (s.more ++ rest_of new),
              (plan.route, (plans.found _, plans.some, plans.small), less, refl),
            )));
      } where
        nothing : (left : Option (List ℕ)) → IsSpent left → rest_of left ≡ []
        nothing None e = refl
        nothing (Some left) e = e

        less : body_length (lengths (pairs head.bytes.now head.fields.now)) ≤ length (drop len bytes ++ (s.more ++ rest_of new)) → ⊥
        less h =
            let all : length (drop len bytes ++ (s.more ++ rest_of new)) ≡ length (drop len bytes ++ s.more)
            = ap (λ t. length (drop len bytes ++ (s.more ++ t))) (nothing new s.spent) ∙ ap (λ t. length (drop len bytes ++ t)) (append-nil s.more) in
            let size = plans.len in
            let few = s.short in
            omega (arith, h, all, size, few)

      -- the body does not come
      pub body_answer : (old new : Option (List ℕ)) (end : Stop AskEnd) (r : Result Ask (Stop AskEnd))
          → (((more : List ℕ) × Gave old new more × IsFault end) ⊎ IsShort old new (drop len bytes) plan.length end) → IsErrAnd r (λ e. e ≡ end) → ReadsOn bytes old new r
      body_answer old new end r f by =
          let p = err_from_is_err_and r by in
          subst (ReadsOn bytes old new) (sym (p.1 ∙ ap Err p.2)) (elim f [
            | inl fault ↦ record { more = fault.0; gave = fault.1; answer = fault_ends (all_of (bytes ++ fault.0) new) end fault.2 }
            | inr s ↦ short old new end s
          ])

      module _ (old new : Option (List ℕ)) (text : List ℕ) (whole : IsWhole old new (drop len bytes) plan.length text) where
        abbrev r : Request
        r = said head (drop len bytes ++ (whole.more ++ rest_of new))

        before : PassesBefore why.Body r plan.route
        before =
            let size = plans.len in
            let there = whole.whole in
            let all = ap length (sym (append_assoc (drop len bytes) whole.more (rest_of new))) ∙ length-append (drop len bytes ++ whole.more) (rest_of new) in
            (plans.found _, plans.some, plans.small, omega (arith, size, there, all))

        body_is : text ≡ body r.fields r.behind
        body_is = whole.is ∙ sym (take-append-le plan.length (drop len bytes ++ whole.more) (rest_of new) whole.whole)
            ∙ ap (take plan.length) (append_assoc (drop len bytes) whole.more (rest_of new))
            ∙ ap (λ n. take n (drop len bytes ++ (whole.more ++ rest_of new))) plans.len

        asks : (m : Method) (t : List ℕ) → Asks plan.route m plan.query.now text t ≡ Asks plan.route m r.query (body r.fields r.behind) t
        asks m t = ap (λ q. Asks plan.route m q text t) plans.query ∙ ap (λ b. Asks plan.route m head.query.now b t) body_is

        none : ((t : List ℕ) → ¬ Asks plan.route plan.method plan.query.now text t) → ¬ Passes why.Body r plan.route
        none no_text p =
            let m : p.1.method ≡ plan.method = one_method p.1.method plan.method (sym p.1.taken.spelled ∙ plans.taken.spelled) in
            no_text p.0 (subst (λ A. A) (sym (asks plan.method p.0)) (subst (λ n. Asks plan.route n r.query (body r.fields r.behind) p.0) m p.1.asks))

        -- the body is there
        pub last_answer : (result : Result Ask (Stop AskEnd)) → AsksBy plan text result → ReadsOn bytes old new result
        last_answer result f = record { more = whole.more; gave = whole.gave; answer = pick result f } where
          pick : (x : Result Ask (Stop AskEnd)) → AsksBy plan text x → Answers (AskOf (all_of (bytes ++ whole.more) new)) x
          pick (Ok ask) a = subst (λ b. AskOf b (Ok ask)) (sym (all_on bytes whole.more new))
              (r, is.says (whole.more ++ rest_of new), (plan.route, before, record { method = plan.method; taken = plans.taken; asks = subst (λ A. A) (asks plan.method ask.text) a }))
          pick (Err stop.NoMemory) a = tt
          pick (Err (stop.Why Failed)) a = absurd a
          pick (Err (stop.Why Closed)) a = absurd a
          pick (Err (stop.Why (Bad bad))) a = subst (λ b. Refuses (AskOf (all_of (bytes ++ whole.more) new)) (stop.Why (Bad b))) (sym a.0)
              (refuses (all_of (bytes ++ whole.more) new) why.Body (all_some bytes whole.more new some)
              (subst (λ b. IsRefused b why.Body None) (sym (all_on bytes whole.more new))
              (r, is.says (whole.more ++ rest_of new), (plan.route, before, none a.1, refl))))

-- the head came first
pub behind_head : (was old new : Option (List ℕ)) (bytes : List ℕ) (r : Result Ask (Stop AskEnd)) → Gave was old bytes → ReadsOn bytes old new r → Reads was new r
behind_head was old new bytes r g on = record { got = bytes ++ on.more; gave = gave_more was old new bytes on.more g on.gave; answer = on.answer }

-- a head has at least a space
spaced : (blank method line : List ℕ) → 1 ≤ length (blank ++ (method ++ 32 ∷ line))
spaced blank method line =
    let all = length-append blank (method ++ 32 ∷ line) in
    let both = length-append method (32 ∷ line) in
    let some : 1 ≤ length (32 ∷ line) = search rules in
    omega (arith, all, both, some)

long : (head : RequestHead) (rest : List ℕ) → 1 ≤ length (print_request head ++ rest)
long head rest = subst (λ bytes. 1 ≤ length bytes) (sym (print_request-append head rest)) (spaced (print_blank head.blank) head.method _)

pub head_some : (bytes : List ℕ) (spans : List HeaderSpan) (parts : RequestSpans) → IsHead bytes spans parts → bytes ≢ []
head_some bytes spans parts h e =
    let len = long h.is.0 (drop parts.len bytes) in
    let all = ap length h.is.1.reads.1 in
    let none = ap length e in
    omega (arith, len, all, none)

-- the bytes from a place on
pub tail_is : (bytes : List ℕ) (len : ℕ) → take (length bytes - len) (drop len bytes) ≡ drop len bytes
tail_is bytes len = let short = length-drop len bytes in take_all (length bytes - len) (drop len bytes) (omega (arith, short))
