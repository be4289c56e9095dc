use Rattle.std.proofs.Common.{◌≡◌, ◌⊎◌, ap, inr, refl, subst, Err}
use Rattle.std.specs.Prelude.{IfErr}
use Rattle.trajdb.specs.Script.{lines_of}
use Rattle.sessions.specs.Folder.{FolderView, IsDropped, IsKept, IsRefusedByFolder, NameIsKept, OfEachBook, RunsBeside}
use Rattle.sessions.proofs.FolderLemmas.{beside, each_book, each_err, every_book, map_ok, unsent_lines}
use Rattle.sessions.proofs.on_copy.run_on_copy.Goals as goal

pub returns-in-Ok-closed-clause-sent : goal.returns-in-Ok-closed-clause-sent
returns-in-Ok-closed-clause-sent g c =
    let how = c.args.how.now in
    let was = (g.F.Folder.seen c.args.folder.now).held in
    each_book was how.is_new how.limits _ _ (λ shape limits book l. l.sends) (c.run_over-store.ensures was c.in-Ok.ensures.copies)

pub returns-in-Err-closed-clause-sent : goal.returns-in-Err-closed-clause-sent
returns-in-Err-closed-clause-sent g c =
    let how = c.args.how.now in
    let was = (g.F.Folder.seen c.args.folder.now).held in
    each_book was how.is_new how.limits _ _ (λ shape limits book l. l.sends) (c.run_over-store.ensures was c.in-Ok.ensures.copies)

pub returns-in-Ok-closed-clause-refused : goal.returns-in-Ok-closed-clause-refused
returns-in-Ok-closed-clause-refused g c =
    let how = c.args.how.now in
    let was = (g.F.Folder.seen c.args.folder.now).held in
    each_book was how.is_new how.limits _ _ (λ shape limits book l. l.refused) (c.run_over-store.ensures was c.in-Ok.ensures.copies)

pub returns-in-Err-closed-clause-refused : goal.returns-in-Err-closed-clause-refused
returns-in-Err-closed-clause-refused g c =
    let how = c.args.how.now in
    let was = (g.F.Folder.seen c.args.folder.now).held in
    each_book was how.is_new how.limits _ _ (λ shape limits book l. l.refused) (c.run_over-store.ensures was c.in-Ok.ensures.copies)

pub returns-in-Err-clause-sent : goal.returns-in-Err-clause-sent
returns-in-Err-clause-sent g c =
    let how = c.args.how.now in
    let sent = (g.O.Output.seen c.args.out.now).contents in
    let lines = lines_of c.args.script.now in
    let fault = c.in-Err.fault in
    every_book (g.F.Folder.seen c.args.folder.now).held how.is_new how.limits _ (λ shape limits book. unsent_lines limits book c.args.files.now sent sent lines (Err fault) fault refl refl)

pub returns-in-Ok-closed-clause-runs : goal.returns-in-Ok-closed-clause-runs
returns-in-Ok-closed-clause-runs g c =
    let how = c.args.how.now in
    let files = c.args.files.now in
    let lines = lines_of c.args.script.now in
    let sent = (g.O.Output.seen c.args.out.now).contents in
    let sent' = (g.O.Output.seen c.run_over-store.new.out).contents in
    let ended = c.run_over-store.result.1 in
    let last = g.F.Store.PageStore.seen c.run_over-store.result.0 in
    let mid = g.F.Folder.seen c.copy.new.self in
    let new = g.F.Folder.seen c.keep.new.folder in
    let was = (g.F.Folder.seen c.args.folder.now).held in
    let first : mid.held ≡ was = ap (λ (v : FolderView). v.held) c.in-Ok.ensures.made in
    map_ok (IsKept last mid new) (OfEachBook was how.is_new how.limits (λ shape limits book. RunsBeside shape limits book files sent sent' lines ended.ran was new.held)) c.keep.result
    (λ k. each_book was how.is_new how.limits _ _
    (beside files sent sent' lines ended.ran ended.kept last was new.held c.in-Ok-closed.is (subst (λ h. NameIsKept last h new.held) first k.name))
    (c.run_over-store.ensures was c.in-Ok.ensures.copies)) c.keep.ensures.kept

pub returns-in-Err-closed-clause-dropped : goal.returns-in-Err-closed-clause-dropped
returns-in-Err-closed-clause-dropped g c =
    let how = c.args.how.now in
    let sent = (g.O.Output.seen c.args.out.now).contents in
    let sent' = (g.O.Output.seen c.run_over-store.new.out).contents in
    let ended = c.run_over-store.result.1 in
    let Drops = IsDropped c.args.files.now sent sent' (lines_of c.args.script.now) ended.ran in
    let old = g.F.Folder.seen c.args.folder.now in
    let new = g.F.Folder.seen c.discard-in-Err-closed.new.self in
    each_err (λ fault. IsRefusedByFolder fault old new ⊎ OfEachBook old.held how.is_new how.limits (λ shape limits book. Drops fault)) ended.kept
    (λ fault fails. inr (each_book old.held how.is_new how.limits _ _ (λ shape limits book l. subst (λ k. IfErr k Drops) fails l.dropped) (c.run_over-store.ensures old.held c.in-Ok.ensures.copies)))
