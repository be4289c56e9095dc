use Rattle.std.proofs.Common.{◌≡◌, ◌∙◌, ap, rules, sym, subst, true, false, IsTrue, Some}
use Rattle.std.specs.Prelude.{IfErr, IfOk}
use Rattle.boxsearch.specs.Index.{words}
use Rattle.legs.specs.Costs.{ShapeView}
use Rattle.legs.specs.Limits.{LimitsView}
use Rattle.trajdb.specs.Db.{shape_of, DbView}
use Rattle.trajdb.specs.Promises.{OpenCall}
use Rattle.sessions.specs.Answers.{new_shape}
use Rattle.header.specs.Fields.{header_payload}
use Rattle.pages.specs.Sealed.{sealed}
use Rattle.pages.specs.Store.{Writes}
use Rattle.catalogue.specs.Beginning.{IsLeft}
use Rattle.sessions.proofs.AnswerLemmas.{created, more_known, no_pages, the_same}
use Rattle.sessions.proofs.FolderLemmas.{made_or_not}
use Rattle.sessions.proofs.LeftLemmas.{neither}
use Rattle.sessions.proofs.session.database.Goals as goal

pub returns-then-len-eq0-clause-kept : goal.returns-then-len-eq0-clause-kept
returns-then-len-eq0-clause-kept g c = no_pages c.create.result (g.S.PageStore.seen c.args.store) (search rules)

pub returns-then-len-eq0-clause-opens : goal.returns-then-len-eq0-clause-opens
returns-then-len-eq0-clause-opens g c =
    let seen = g.S.PageStore.seen in
    let s = seen c.args.store in
    let r = c.create.result in
    let e = c.create.ensures in
    let none : s.count ≡ 0 = sym c.len.ensures ∙ c.if-len-eq0.true in
    let same_shape : c.unwrap-shape.result ≡ new_shape = the_same c.unwrap-shape.result new_shape (sym c.unwrap-shape.ensures ∙ c.new.ensures) in
    let shape : IfOk r (λ (db : DbView). words.plan db.index ≡ Some new_shape) = subst (λ (k : ShapeView). IfOk r (λ (db : DbView). words.plan db.index ≡ Some k)) same_shape e.shape in
    let most : LimitsView = c.args.how.now.limits in
    let writes : IfOk r (λ (db : DbView). Writes 0 (sealed 0 (header_payload new_shape most)) s db.index.cache.store) =
    subst (λ (k : ShapeView). IfOk r (λ (db : DbView). Writes 0 (sealed 0 (header_payload k most)) s db.index.cache.store)) same_shape e.stored in
    let left : IfErr r (λ back. IsLeft new_shape most s (seen back.0)) =
    subst (λ (k : ShapeView). IfErr r (λ back. IsLeft k most s (seen back.0))) same_shape e.left in
    record {
      opens = neither (OpenCall seen s c.args.how.now.cache_pages r) c.args.how.now.is_new s.count c.if-how.true none;
      makes = λ n z. made_or_not seen most c.args.how.now.cache_pages r s (created r new_shape most (IsTrue s.is_faithful) shape e.sound e.made) e.made (more_known (λ (db : DbView). words.plan db.index ≡ Some new_shape) (λ db. shape_of db ≡ new_shape) r (λ db h. the_same (shape_of db) new_shape h) shape) e.pages e.capacity writes e.synced e.only e.caused e.kept left;
    }

pub returns-then-len-eq0-clause-idle : goal.returns-then-len-eq0-clause-idle
returns-then-len-eq0-clause-idle g c = more_known _ _ c.create.result (λ (db : DbView) is fa unbegun lives. let wrong : true ≡ false = sym (ap (λ (d : DbView). d.begun) is) ∙ unbegun in absurd cc) c.create.ensures.made

pub returns-then-len-eq0-clause-lives : goal.returns-then-len-eq0-clause-lives
returns-then-len-eq0-clause-lives g c = more_known _ _ c.create.result (λ (db : DbView) is. ap (λ (d : DbView). d.failed) is) c.create.ensures.made

pub returns-clause-opens : goal.returns-clause-opens
returns-clause-opens g c = record { opens = λ h. c.open.ensures; makes = λ n z. search rules }
