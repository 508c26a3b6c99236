use Rattle.std.proofs.Common.{arith, List, ℕ, subst}
use Rattle.smi_lex.proofs.Reading.{reads_from}
use Rattle.smi_graph.specs.Skeletons.{IsSkeleton, IsBroken}
use Rattle.smi_mean.specs.Lines.{text_of}
use Rattle.smi_mean.proofs.CentresMarked.{right_fits}
use Rattle.smi_mean.proofs.Refusals.{refused_of_broken, refused_of_skeleton, none_refused, stands_of}
use Rattle.smi_mean.proofs.Soundness.{sound_of}
use Rattle.smi_mean.proofs.read.read_named.Goals as goal

pub returns-in-Err-clause-err : goal.returns-in-Err-clause-err
returns-in-Err-clause-err c =
    refused_of_broken (text_of c.args.line.now) c.in-Err.stop (subst (λ (x : List ℕ). IsBroken x c.in-Err.stop) c.text_end-end.ensures.text c.in-Err.ensures.err)

pub returns-in-Err-clause-complete : goal.returns-in-Err-clause-complete
returns-in-Err-clause-complete c = none_refused (text_of c.args.line.now) c.in-Err.stop
    (refused_of_broken (text_of c.args.line.now) c.in-Err.stop (subst (λ (x : List ℕ). IsBroken x c.in-Err.stop) c.text_end-end.ensures.text c.in-Err.ensures.err))

pub returns-in-Err-mean-clause-err : goal.returns-in-Err-mean-clause-err
returns-in-Err-mean-clause-err c =
    let s : IsSkeleton (text_of c.args.line.now) c.in-Ok.skeleton = subst (λ (x : List ℕ). IsSkeleton x c.in-Ok.skeleton) c.text_end-end.ensures.text c.in-Ok.ensures.ok in
    refused_of_skeleton (text_of c.args.line.now) c.in-Ok.skeleton c.in-Err-mean.stop s c.in-Err-mean.ensures.err

pub returns-in-Err-mean-clause-complete : goal.returns-in-Err-mean-clause-complete
returns-in-Err-mean-clause-complete c =
    let s : IsSkeleton (text_of c.args.line.now) c.in-Ok.skeleton = subst (λ (x : List ℕ). IsSkeleton x c.in-Ok.skeleton) c.text_end-end.ensures.text c.in-Ok.ensures.ok in
    none_refused (text_of c.args.line.now) c.in-Err-mean.stop (refused_of_skeleton (text_of c.args.line.now) c.in-Ok.skeleton c.in-Err-mean.stop s c.in-Err-mean.ensures.err)

pub returns-clause-ok : goal.returns-clause-ok
returns-clause-ok c =
    let s : IsSkeleton (text_of c.args.line.now) c.in-Ok.skeleton = subst (λ (x : List ℕ). IsSkeleton x c.in-Ok.skeleton) c.text_end-end.ensures.text c.in-Ok.ensures.ok in
    stands_of (text_of c.args.line.now) c.in-Ok.skeleton c.in-Ok-mean.mol s c.in-Ok-mean.ensures.ok

pub returns-clause-sound : goal.returns-clause-sound
returns-clause-sound c =
    let s : IsSkeleton (text_of c.args.line.now) c.in-Ok.skeleton = subst (λ (x : List ℕ). IsSkeleton x c.in-Ok.skeleton) c.text_end-end.ensures.text c.in-Ok.ensures.ok in
    let text : List ℕ = text_of c.args.line.now in
    let r = reads_from text 0 (omega arith) in
    sound_of text c.in-Ok.skeleton c.in-Ok-mean.mol r.reading s c.in-Ok-mean.ensures.ok

pub returns-clause-marks : goal.returns-clause-marks
returns-clause-marks c =
    let s : IsSkeleton (text_of c.args.line.now) c.in-Ok.skeleton = subst (λ (x : List ℕ). IsSkeleton x c.in-Ok.skeleton) c.text_end-end.ensures.text c.in-Ok.ensures.ok in
    λ k less. right_fits c.in-Ok.skeleton c.in-Ok-mean.mol k s.limits c.in-Ok-mean.ensures.ok.under c.in-Ok-mean.ensures.ok.marks
