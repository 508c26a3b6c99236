use Rattle.std.proofs.Common.{arith, ◌≡◌, ◌∙◌, ◌∷◌, ◌++◌, [], ℕ, List, get_or, take, map, sym, ap, refl}
use Rattle.std.specs.List.{list_all}
use Rattle.std.proofs.lemmas.List.{length-map}
use Rattle.std.proofs.lemmas.List.Folds.{list_all-append}
use Rattle.smi_lex.specs.declared.token.Token.{Token}
use Rattle.smi_graph.specs.declared.role.Role.{Role}
use Rattle.smi_graph.specs.declared.skel_atom.SkelAtom.{SkelAtom}
use Rattle.smi_graph.specs.Roles.{role_of, roles, atom_of, atoms_of}
use Rattle.smi_graph.specs.Order.{tokens_before}
use Rattle.smi_graph.specs.Reading.{held_atom, is_within_limits, all_plain}
use Rattle.smi_graph.proofs.Prefixes.{tokens_before_more}
use Rattle.smi_graph.specs.Rules.{is_built_kind}
use Rattle.smi_graph.proofs.Ahead.{next_of, take_next, map_here, all_more, held_more}
use Rattle.smi_graph.proofs.reader.Reader.read_as.Goals as goal

pub returns-clause-has : goal.returns-clause-has
returns-clause-has c = λ ts later ahead has.
    let i : ℕ = c.args.self.now.structure.tokens in
    let next = next_of ts i c.args.token later ahead in
    let within = next.within in
    let more = c.in_ok-read.ensures.tokens in
    let taken : take c.read.new.self.tokens ts ≡ take i ts ++ c.args.token ∷ [] = ap (λ (n : ℕ). take n ts) more ∙ take_next ts i c.args.token later ahead in
    let count = length-map ts (λ (token : Token). role_of token.kind) in
    let here : get_or (roles ts) i c.args.role ≡ c.args.role = map_here (λ (token : Token). role_of token.kind) ts i c.args.role c.args.token within ∙ (ap (λ (t : Token). role_of t.kind) (next.here c.args.token) ∙ sym c.requires.role) in
    let before : tokens_before (roles ts) c.read.new.self.tokens ≡ c.args.role ∷ tokens_before (roles ts) i
    = ap (tokens_before (roles ts)) more ∙ (tokens_before_more (roles ts) i c.args.role (omega arith) ∙ ap (λ (k : Role). k ∷ tokens_before (roles ts) i) here) in
    record {
      within = omega arith;
      atoms = c.in_ok-push_atom.ensures ∙ (ap (λ (x : List SkelAtom). x ++ map held_atom (atom_of c.args.token.kind c.args.token.span)) has.atoms
          ∙ (sym (held_more (take i ts) c.args.token) ∙ ap (λ (x : List Token). map held_atom (atoms_of x)) (sym taken)));
      within_limits = c.both-self.ensures ∙ (rw (has.within_limits, c.is_within.ensures c.args.token.span) refl
          ∙ (sym (list_all-append is_within_limits c.args.self.now.atoms.items (map held_atom (atom_of c.args.token.kind c.args.token.span))) ∙ ap (list_all is_within_limits) (sym c.in_ok-push_atom.ensures)));
      built = c.both-self-2.ensures ∙ (rw (has.built, c.is_built_kind.ensures) refl
          ∙ (sym (all_more (λ (token : Token). is_built_kind token.kind) (take i ts) c.args.token) ∙ ap (list_all (λ (token : Token). is_built_kind token.kind)) (sym taken)));
      plain = c.both-self-3.ensures ∙ (rw (has.plain, c.is_plain.ensures) refl ∙ sym (ap all_plain before));
      follows = c.in_ok-read.ensures.follows (roles ts) c.args.role (omega arith) here has.follows;
    }
